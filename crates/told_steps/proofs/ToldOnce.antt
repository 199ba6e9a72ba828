-- One step, with its two rounds, is a run that is told.
use Rattle.std.proofs.Common.{◌≡◌, Bool, List, [], ◌∷◌, ap, refl, subst, sym}
use Rattle.edit_steps.specs.Steps.{Step}
use Rattle.slab_laws.specs.declared.names.DartId.{DartId}
use Rattle.slab_laws.specs.FacesSound.{IsSound}
use Rattle.slab_laws.specs.Sound.{IsGraphSound}
use Rattle.arr_notes.specs.declared.change.Change.{Change}
use Rattle.arr_notes.specs.declared.intent.Intent.{Intent}
use Rattle.arr_notes.specs.declared.note.Note.TheVariants.{Before, After}
use Rattle.arr_notes.specs.Curves.{Curves, step_curves}
use Rattle.arr_notes.specs.MapView.{MapView, step_map}
use Rattle.curve_history.specs.Past.{Past, curves_on, strands_on}
use Rattle.face_steps.specs.ChangeLaws.{FitsNoted}
use Rattle.face_steps.specs.MovedLists.{ListsWhatMoves}
use Rattle.face_steps.proofs.ChangeLaws.{changes_keep_faces_sound}
use Rattle.observer_bus.specs.Rounds.{AreInRound, BusRow, IsRoundOf}
use Rattle.observer_bus.specs.Seats.{SeatRow}
use Rattle.observer_bus.specs.declared.went.Went.{Went}
use Rattle.told_steps.specs.RecordLayers.{IsMapMade}
use Rattle.sound_changes.specs.StepOfChange.{step_of_change, FitsChange}
use Rattle.told_steps.specs.StrandRuns.{IsStrandRun}
use Rattle.told_steps.proofs.StrandRuns.{strand_step}
use Rattle.told_steps.specs.ToldRuns.{AreInStep, IsJustChanged, IsToldRun, intent_of, seen}

-- the map w and the curves k are what the change makes of m and h, which it fits, and whose lists are just what moves
pub record HasMade (m : MapView) (h : Curves) (x : Change) (w : MapView) (k : Curves) : Type 0 where
  pub view : w ≡ step_map m x
  pub curves : (d : DartId) → k d ≡ step_curves h x d
  pub fits : FitsChange m.graph h x
  pub noted : FitsNoted m.graph m.faces x
  pub listed : ListsWhatMoves m.graph m.faces x
  pub sound : IsGraphSound w.graph

module _ {m : MapView} {h : Curves} {x : Change} {w : MapView} {k : Curves} (o : HasMade m h x w k) (before : IsSound m.graph m.faces) where
  made_as : (e : Step) → step_of_change m.graph x ≡ e → IsMapMade m h e x
  made_as e t =
      let after = subst (λ (z : MapView). IsGraphSound z.graph) o.view o.sound in
      record { made = record { fits = o.fits; tells = t; sound = after }; fits = o.noted; lists = o.listed; sound = changes_keep_faces_sound m.graph h m.faces x before o.fits after o.noted }

  -- the map is sound after it
  pub sound_by : IsSound w.graph w.faces
  sound_by = subst (λ (z : MapView). IsSound z.graph z.faces) (sym o.view) (made_as _ refl).sound

  -- rounds before and after the change tell of its step
  pub told_by : (e : Step) → step_of_change m.graph x ≡ e → (i : Intent) → i ≡ intent_of e → {ss ts us : List SeatRow} {p q r : Went} {l n y : Bool} →
      IsRoundOf (Before i) (seen m h) ss p ts q × (n ≡ l) → IsRoundOf (After x) (seen w k) ts q us r × (y ≡ n) →
      IsToldRun m h (record { seats = ss; went = p; settled = l }) (e ∷ []) w k (record { seats = us; went = r; settled = y })
  unfolding IsToldRun
  told_by e t i j {ss} {ts} {us} {p} {q} {r} {l} {n} {y} one two =
      let as_by : k ≡ step_curves h x = λ i d. o.curves d i in
      let b : BusRow = record { seats = ss; went = p; settled = l } in
      let c : BusRow = record { seats = ts; went = q; settled = n } in
      let d : BusRow = record { seats = us; went = r; settled = y } in (
        x,
        made_as e t,
        c,
        d,
        subst (λ i. AreInRound (Before i) (seen m h) b c) j one,
        subst (λ z. AreInRound (After x) z c d) (λ i. seen (o.view i) (as_by i)) two,
        (o.view, o.curves, refl),
      )

module _ {m : MapView} {h : Curves} {x : Change} {w : MapView} {k : Curves} (o : HasMade m h x w k) where
  -- the bus was in step before the change
  pub changed_by : {b : BusRow} → AreInStep m h b → IsJustChanged x w k b
  changed_by t = record { before = m; before_curves = h; in_step = t; made = made_as o t.sound _ refl; view = o.view; curves = o.curves }

-- and it is that step where the sides of curves are told apart
module _ {m : MapView} (p : Past) {x : Change} {w : MapView} {k : Curves} (o : HasMade m (curves_on p) x w k) where
  pub strands_by : {b : BusRow} → AreInStep m (curves_on p) b → (q : Past) → FitsChange m.graph (strands_on p) x → ((d : DartId) → strands_on q d ≡ step_curves (strands_on p) x d) → IsStrandRun m.graph p (step_of_change m.graph x ∷ []) w.graph q
  strands_by t q f s = strand_step m.graph p x w.graph q t.sound.graph t.curves f (ap (λ (z : MapView). z.graph) o.view) s
