-- Told steps, one after the other.
use Rattle.std.proofs.Common.{◌≡◌, All, List, [], ◌∷◌, ◌++◌, refl, sym, ap, subst, ◌∙◌}
use Rattle.edit_steps.specs.Steps.{Step}
use Rattle.slab_laws.specs.declared.names.DartId.{DartId}
use Rattle.slab_laws.specs.FacesSound.{IsSound}
use Rattle.slab_laws.specs.Sound.{IsGraphSound}
use Rattle.arr_notes.specs.Curves.{Curves, AreCurvesOf, step_curves}
use Rattle.arr_notes.specs.CurvedView.{CurvedView}
use Rattle.arr_notes.specs.MapView.{MapView, step_map}
use Rattle.arr_notes.specs.declared.change.Change.{Change}
use Rattle.arr_notes.specs.declared.note.Note.{Note}
use Rattle.arr_notes.specs.declared.note.Note.TheVariants.{Before, After}
use Rattle.face_changes.specs.FacesByPairs.{first_or}
use Rattle.face_steps.proofs.ChangeNames.{changes_keep_first}
use Rattle.observer_bus.proofs.Hearing.{rounds_lawful}
use Rattle.observer_bus.specs.RoundLaws.{AreRounds}
use Rattle.observer_bus.specs.Rounds.{AreInRound, BusRow}
use Rattle.observer_bus.specs.Seats.{Holds}
use Rattle.told_steps.specs.RecordLayers.{IsMapMade, IsRunOfSteps}
use Rattle.told_steps.proofs.Changed.{seen_after, curves_after}
use Rattle.told_steps.specs.ToldLaws.{AreRoundsOf, AreToldRunsLawful}
use Rattle.told_steps.specs.ToldRuns.{AreInStep, IsToldRun, intent_of, seen}

-- curves that each name has alike are the same
same : {h g : Curves} → ((d : DartId) → g d ≡ h d) → g ≡ h
same e = λ i d. e d i

steps : (m : MapView) (h : Curves) (b : BusRow) (ss : List Step) (w : MapView) (k : Curves) (c : BusRow) → IsToldRun m h b ss w k c → IsRunOfSteps m.graph h ss w.graph k
unfolding IsToldRun
steps m h b [] w k c r = (ap (λ (z : MapView). z.graph) r.0, r.1)
steps m h b (s ∷ ss) w k c (x, o, p, q, one, two, r) = (x, o.made, steps (step_map m x) (step_curves h x) q ss w k c r)

sound : (m : MapView) (h : Curves) (b : BusRow) (ss : List Step) (w : MapView) (k : Curves) (c : BusRow) → IsToldRun m h b ss w k c → IsSound m.graph m.faces → IsSound w.graph w.faces
unfolding IsToldRun
sound m h b [] w k c r s = subst (λ (z : MapView). IsSound z.graph z.faces) (sym r.0) s
sound m h b (e ∷ ss) w k c (x, o, p, q, one, two, r) s = sound (step_map m x) (step_curves h x) q ss w k c r o.sound

first : (m : MapView) (h : Curves) (b : BusRow) (ss : List Step) (w : MapView) (k : Curves) (c : BusRow) → IsToldRun m h b ss w k c → IsSound m.graph m.faces → first_or w.faces.faces ≡ first_or m.faces.faces
unfolding IsToldRun
first m h b [] w k c r s = ap (λ (z : MapView). first_or z.faces.faces) r.0
first m h b (e ∷ ss) w k c (x, o, p, q, one, two, r) s = first (step_map m x) (step_curves h x) q ss w k c r o.sound ∙ changes_keep_first m.graph m.faces x (record { sound = s; curves = h; fits = o.made.fits; noted = o.fits })

same_curves : (m : MapView) (h g : Curves) (b : BusRow) (ss : List Step) (w : MapView) (k l : Curves) (c : BusRow) → ((d : DartId) → g d ≡ h d) → ((d : DartId) → l d ≡ k d) → IsToldRun m h b ss w k c → IsToldRun m g b ss w l c
same_curves m h g b ss w k l c e f r = subst (λ z. IsToldRun m z b ss w l c) (sym (same e)) (subst (λ z. IsToldRun m h b ss w z c) (sym (same f)) r)

follow : (m : MapView) (h : Curves) (b : BusRow) (ss ts : List Step) (w : MapView) (k : Curves) (c : BusRow) (x : MapView) (l : Curves) (d : BusRow) → IsToldRun m h b ss w k c → IsToldRun w k c ts x l d → IsToldRun m h b (ss ++ ts) x l d
unfolding IsToldRun
follow m h b [] ts w k c x l d r n =
    subst (λ z. IsToldRun z h b ts x l d) r.0 (subst (λ z. IsToldRun w h z ts x l d) r.2 (subst (λ z. IsToldRun w z c ts x l d) (same r.1) n))
follow m h b (s ∷ ss) ts w k c x l d (y, o, p, q, one, two, r) n = (y, o, p, q, one, two, follow (step_map m y) (step_curves h y) q ss ts w k c x l d r n)

settled : (m : MapView) (h : Curves) (b : BusRow) (ss : List Step) (w : MapView) (k : Curves) (c : BusRow) → IsToldRun m h b ss w k c → c.settled ≡ b.settled
unfolding IsToldRun
settled m h b [] w k c r = λ i. (r.2 i).settled
settled m h b (s ∷ ss) w k c (x, o, p, q, one, two, r) = settled (step_map m x) (step_curves h x) q ss w k c r ∙ two.1 ∙ one.1

-- what is held over the two rounds of a step
held_over : (m : MapView) (h : Curves) (s : Step) (x : Change) → IsMapMade m h s x → IsGraphSound m.graph → AreCurvesOf m.graph h → (b c d : BusRow) →
    AreInRound (Before (intent_of s)) (seen m h) b c → AreInRound (After x) (seen (step_map m x) (step_curves h x)) c d → All (Holds (seen m h)) b.seats → All (Holds (seen (step_map m x) (step_curves h x))) d.seats
held_over m h s x o g a b c d one two t =
    rounds_lawful.held ((Before (intent_of s), seen m h) ∷ (After x, seen (step_map m x) (step_curves h x)) ∷ []) b d (c, one, (d, two, refl))
    (seen m h) (seen (step_map m x) (step_curves h x)) (refl, (seen_after m h g a s x o.made, refl)) t

in_step : (m : MapView) (h : Curves) (b : BusRow) (ss : List Step) (w : MapView) (k : Curves) (c : BusRow) → IsToldRun m h b ss w k c → AreInStep m h b → AreInStep w k c
unfolding IsToldRun
in_step m h b [] w k c r t = subst (λ z. AreInStep z k c) (sym r.0) (subst (λ z. AreInStep m z c) (sym (same r.1)) (subst (AreInStep m h) (sym r.2) t))
in_step m h b (s ∷ ss) w k c (x, o, p, q, one, two, r) t =
    in_step (step_map m x) (step_curves h x) q ss w k c r (record {
      sound = o.sound;
      curves = curves_after m h t.sound.graph t.curves s x o.made;
      settled = two.1 ∙ one.1 ∙ t.settled;
      holds = held_over m h s x o t.sound.graph t.curves b p q one two t.holds;
    })

holds : (m : MapView) (h : Curves) (b : BusRow) (ss : List Step) (w : MapView) (k : Curves) (c : BusRow) → IsToldRun m h b ss w k c → IsGraphSound m.graph → AreCurvesOf m.graph h → All (Holds (seen m h)) b.seats → All (Holds (seen w k)) c.seats
unfolding IsToldRun
holds m h b [] w k c r s a t = subst (λ z. All (Holds (seen z k)) c.seats) (sym r.0) (subst (λ z. All (Holds (seen m z)) c.seats) (sym (same r.1)) (subst (λ (z : BusRow). All (Holds (seen m h)) z.seats) (sym r.2) t))
holds m h b (e ∷ ss) w k c (x, o, p, q, one, two, r) s a t =
    holds (step_map m x) (step_curves h x) q ss w k c r o.made.sound (curves_after m h s a e x o.made)
    (held_over m h e x o s a b p q one two t)

rounds : (m : MapView) (h : Curves) (b : BusRow) (ss : List Step) (w : MapView) (k : Curves) (c : BusRow) → IsToldRun m h b ss w k c → (rs : List (Note × CurvedView)) × AreRoundsOf m h ss rs × AreRounds rs b c
unfolding IsToldRun
rounds m h b [] w k c r = ([], refl, r.2)
rounds m h b (s ∷ ss) w k c (x, o, p, q, one, two, r) =
    let n = rounds (step_map m x) (step_curves h x) q ss w k c r in
    ((Before (intent_of s), seen m h) ∷ (After x, seen (step_map m x) (step_curves h x)) ∷ n.0, (x, o, n.0, refl, n.1), (p, one, (q, two, n.2)))

pub told_runs_lawful : AreToldRunsLawful
told_runs_lawful = record {
  steps = steps;
  sound = sound;
  first = first;
  follow = follow;
  settled = settled;
  holds = holds;
  in_step = in_step;
  rounds = rounds;
  heard = λ m h b ss w k c r apart s t ms mt j e.
      let n = rounds m h b ss w k c r in
      let y = rounds_lawful.heard n.0 b c n.2 apart s t ms mt j e in
      record { rounds = n.0; are = n.1; seated = y.0; heard = y.1 };
  same_curves = same_curves;
  same_steps = λ m h b ss ts w k c e r. subst (λ z. IsToldRun m h b z w k c) e r;
}
