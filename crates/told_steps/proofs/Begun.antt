-- An edit begins: the bus is in step with its records and history, also where these have only more room or other pieces, and what is told from then on is told of the edit.
use Rattle.std.proofs.Common.{◌≡◌, true, All, List, [], refl, sym, ap, ap₂, subst, ◌∙◌}
use Rattle.edit_steps.specs.Steps.{Step, run}
use Rattle.slab_laws.specs.FacesSound.{IsSound}
use Rattle.arr_notes.specs.Curves.{Curves}
use Rattle.arr_notes.specs.MapView.{MapView}
use Rattle.arr_notes.specs.RecordGraph.{drawn_graph}
use Rattle.curve_history.specs.Past.{Past, SameCurves, SameStrands, curves_on}
use Rattle.curve_history.proofs.Sides.{same_strands_curves}
use Rattle.observer_bus.specs.Rounds.{BusRow}
use Rattle.observer_bus.specs.Seats.{Holds, SeatRow}
use Rattle.told_steps.proofs.Moved.{one_curves}
use Rattle.told_steps.specs.RecordLayers.{IsLayer}
use Rattle.told_steps.specs.SidedRuns.{IsSidedRun}
use Rattle.told_steps.specs.ToldRuns.{AreInStep, IsToldRun, seen}

-- the bus with these seats, when an edit begins
abbrev opened : List SeatRow → BusRow
opened ss = record { seats = ss; went = record { joined = []; left = []; lost = [] }; settled = true }

-- a run of no steps
pub none_told : (m : MapView) (h : Curves) (b : BusRow) → IsToldRun m h b [] m h b
unfolding IsToldRun
none_told m h b = (refl, λ d. refl, refl)

-- the map w and the history q are and draw what m and p do
module _ (m : MapView) (p : Past) (w : MapView) (q : Past) (view : w ≡ m) (curves : SameCurves p q) where
  pub moved : (P : MapView → Curves → Type 0) → P m (curves_on p) → P w (curves_on q)
  moved P x = subst (λ z. P z (curves_on q)) (sym view) (subst (P m) (sym (one_curves p q curves)) x)

  pub drawn_stays : drawn_graph w.graph (curves_on q) ≡ drawn_graph m.graph (curves_on p)
  drawn_stays = ap₂ (λ (z : MapView) h. drawn_graph z.graph h) view (one_curves p q curves)

  -- observers hold what they held
  pub still_watched : (ss : List SeatRow) → All (Holds (seen m (curves_on p))) ss → All (Holds (seen w (curves_on q))) ss
  still_watched ss a = moved (λ z h. All (Holds (seen z h)) ss) a

  -- and are in step where they were
  pub still_in_step : {b : BusRow} → AreInStep m (curves_on p) b → AreInStep w (curves_on q) b
  still_in_step {b} t = moved (λ z h. AreInStep z h b) t

  module _ {ss : List SeatRow} {c : BusRow} (e : c ≡ opened ss) where
    -- observers of a layer are in step once an edit has begun
    pub begun_in_step : IsSound m.graph m.faces → IsLayer m.graph p → All (Holds (seen m (curves_on p))) ss → AreInStep w (curves_on q) c
    begun_in_step s l a =
        still_in_step (record {
          sound = s;
          curves = l.curves;
          settled = ap (λ (d : BusRow). d.settled) e;
          holds = subst (λ (d : BusRow). All (Holds (seen m (curves_on p))) d.seats) (sym e) a;
        })

    -- what is told from then on is told of the edit
    pub told_of_edit : (ts : List Step) (x : MapView) (k : Curves) (d : BusRow) → IsToldRun w (curves_on q) c ts x k d → IsToldRun m (curves_on p) (opened ss) ts x k d
    told_of_edit ts x k d t =
        subst (λ o. IsToldRun m (curves_on p) o ts x k d) e (subst (λ h. IsToldRun m h c ts x k d) (one_curves p q curves) (subst (λ z. IsToldRun z (curves_on q) c ts x k d) view t))

-- and so with the sides of curves told apart
module _ (m : MapView) (p : Past) (w : MapView) (q : Past) (view : w ≡ m) (strands : SameStrands p q) {ss : List SeatRow} {c : BusRow} (e : c ≡ opened ss) where
  pub sided_of_edit : (ts : List Step) (x : MapView) (k : Past) (d : BusRow) → IsSidedRun w q c ts x k d → IsSidedRun m p (opened ss) ts x k d
  sided_of_edit ts x k d t = record {
    told = told_of_edit m p w q view (same_strands_curves p q strands) e ts x (curves_on k) d t.told;
    strands = t.strands ∙ ap (run ts) (λ i. drawn_graph (view i).graph (λ y. strands y i));
  }
