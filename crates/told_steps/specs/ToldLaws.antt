-- Laws of runs of told steps, for what makes more than one.
use Rattle.std.specs.Prelude.{◌≡◌, All, List, [], ◌∷◌, ◌++◌, None}
use Rattle.plane_graphs.specs.Ascending.{Member}
use Rattle.edit_steps.specs.Steps.{Step}
use Rattle.slab_laws.specs.declared.names.DartId.{DartId}
use Rattle.slab_laws.specs.FacesSound.{IsSound}
use Rattle.slab_laws.specs.Sound.{IsGraphSound}
use Rattle.arr_notes.specs.Curves.{Curves, AreCurvesOf, step_curves}
use Rattle.arr_notes.specs.CurvedView.{CurvedView}
use Rattle.arr_notes.specs.MapView.{MapView, step_map}
use Rattle.arr_notes.specs.declared.change.Change.{Change}
use Rattle.arr_notes.specs.declared.note.Note.{Note}
use Rattle.arr_notes.specs.declared.note.Note.TheVariants.{Before, After}
use Rattle.observer_bus.specs.RoundLaws.{AreRounds, HaveNamesApart, heard_in}
use Rattle.observer_bus.specs.Rounds.{BusRow}
use Rattle.observer_bus.specs.Seats.{Holds, SeatRow}
use Rattle.face_changes.specs.FacesByPairs.{first_or}
use Rattle.told_steps.specs.RecordLayers.{IsMapMade, IsRunOfSteps}
use Rattle.told_steps.specs.ToldRuns.{AreInStep, IsToldRun, intent_of, seen}

-- the rounds of these steps, two for each: the step by points, over the records before it, and the change that makes it, over those after it (this project)
abbrev pub AreRoundsOf : MapView → Curves → List Step → List (Note × CurvedView) → Type 0
AreRoundsOf m h [] rs = rs ≡ []
AreRoundsOf m h (s ∷ ss) rs =
    (x : Change) × IsMapMade m h s x × (qs : List (Note × CurvedView)) × (rs ≡ (Before (intent_of s), seen m h) ∷ (After x, seen (step_map m x) (step_curves h x)) ∷ qs) ×
    AreRoundsOf (step_map m x) (step_curves h x) ss qs

-- the seat t, which was s when the steps began, is seated still, and has heard the notes of just these steps more (this project)
pub record HasHeardSteps (m : MapView) (h : Curves) (ss : List Step) (s t : SeatRow) : Type 0 where
  pub rounds : List (Note × CurvedView)
  pub are : AreRoundsOf m h ss rounds
  pub seated : t.join ≡ None
  pub heard : t.heard ≡ heard_in s.heard rounds

-- told steps are steps; they keep the map sound, and the unbounded face its name, which is the first; they follow on each other; what observers hold stays the records' view; a seated observer that stays has heard just the notes of the steps, in their order; and only the points of the steps and the curves that each name has count (this project)
pub record AreToldRunsLawful : Type 0 where
  pub steps : (m : MapView) (h : Curves) (b : BusRow) (ss : List Step) (w : MapView) (k : Curves) (c : BusRow) → IsToldRun m h b ss w k c → IsRunOfSteps m.graph h ss w.graph k
  pub sound : (m : MapView) (h : Curves) (b : BusRow) (ss : List Step) (w : MapView) (k : Curves) (c : BusRow) → IsToldRun m h b ss w k c → IsSound m.graph m.faces → IsSound w.graph w.faces
  pub first : (m : MapView) (h : Curves) (b : BusRow) (ss : List Step) (w : MapView) (k : Curves) (c : BusRow) → IsToldRun m h b ss w k c → IsSound m.graph m.faces → first_or w.faces.faces ≡ first_or m.faces.faces
  pub follow : (m : MapView) (h : Curves) (b : BusRow) (ss ts : List Step) (w : MapView) (k : Curves) (c : BusRow) (n : MapView) (l : Curves) (d : BusRow) →
      IsToldRun m h b ss w k c → IsToldRun w k c ts n l d → IsToldRun m h b (ss ++ ts) n l d
  pub settled : (m : MapView) (h : Curves) (b : BusRow) (ss : List Step) (w : MapView) (k : Curves) (c : BusRow) → IsToldRun m h b ss w k c → c.settled ≡ b.settled
  pub holds : (m : MapView) (h : Curves) (b : BusRow) (ss : List Step) (w : MapView) (k : Curves) (c : BusRow) → IsToldRun m h b ss w k c →
      IsGraphSound m.graph → AreCurvesOf m.graph h → All (Holds (seen m h)) b.seats → All (Holds (seen w k)) c.seats
  pub in_step : (m : MapView) (h : Curves) (b : BusRow) (ss : List Step) (w : MapView) (k : Curves) (c : BusRow) → IsToldRun m h b ss w k c → AreInStep m h b → AreInStep w k c
  pub rounds : (m : MapView) (h : Curves) (b : BusRow) (ss : List Step) (w : MapView) (k : Curves) (c : BusRow) → IsToldRun m h b ss w k c →
      (rs : List (Note × CurvedView)) × AreRoundsOf m h ss rs × AreRounds rs b c
  pub heard : (m : MapView) (h : Curves) (b : BusRow) (ss : List Step) (w : MapView) (k : Curves) (c : BusRow) → IsToldRun m h b ss w k c → HaveNamesApart b.seats →
      (s t : SeatRow) → Member s b.seats → Member t c.seats → s.join ≡ None → t.name ≡ s.name → HasHeardSteps m h ss s t
  pub same_curves : (m : MapView) (h g : Curves) (b : BusRow) (ss : List Step) (w : MapView) (k l : Curves) (c : BusRow) → ((d : DartId) → g d ≡ h d) → ((d : DartId) → l d ≡ k d) →
      IsToldRun m h b ss w k c → IsToldRun m g b ss w l c
  pub same_steps : (m : MapView) (h : Curves) (b : BusRow) (ss ts : List Step) (w : MapView) (k : Curves) (c : BusRow) → ss ≡ ts → IsToldRun m h b ss w k c → IsToldRun m h b ts w k c
