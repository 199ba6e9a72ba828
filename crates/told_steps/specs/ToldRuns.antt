-- Steps of records, each told to observers before and after it.
use Rattle.std.specs.Prelude.{◌≡◌, true, All, List, [], ◌∷◌, map}
use Rattle.edit_steps.specs.Steps.{Step, AddVertex as AddVertexAt, RemoveVertex as RemoveVertexAt, SplitEdge as SplitEdgeAt, MergeEdge as MergeEdgeAt, AddEdge as AddEdgeAt, RemoveEdge as RemoveEdgeAt, AddCurve as AddCurveAt, RemoveCurve as RemoveCurveAt, SetPin as SetPinAt, ClearPin as ClearPinAt, Clear as ClearAll}
use Rattle.slab_laws.specs.declared.names.DartId.{DartId}
use Rattle.slab_laws.specs.FacesSound.{IsSound}
use Rattle.slab_laws.specs.View.{curve_id}
use Rattle.arr_notes.specs.Curves.{Curves, AreCurvesOf, step_curves}
use Rattle.arr_notes.specs.CurvedView.{CurvedView, view_by}
use Rattle.arr_notes.specs.MapView.{MapView, step_map}
use Rattle.arr_notes.specs.declared.change.Change.{Change}
use Rattle.arr_notes.specs.declared.intent.Intent.{Intent}
use Rattle.arr_notes.specs.declared.intent.Intent.TheVariants.{AddVertex, RemoveVertex, SplitEdge, MergeEdge, AddEdge, RemoveEdge, AddCurve, RemoveCurve, SetPin, ClearPin, Clear}
use Rattle.arr_notes.specs.declared.note.Note.TheVariants.{Before, After}
use Rattle.observer_bus.specs.Rounds.{AreInRound, BusRow}
use Rattle.observer_bus.specs.Seats.{Holds}
use Rattle.told_steps.specs.RecordLayers.{IsMapMade}
use Rattle.sound_changes.specs.StepOfChange.{step_of_change}

-- the view that observers have of records, with these curves of their forward darts (this project)
abbrev pub seen : MapView → Curves → CurvedView
seen m h = view_by m.graph m.faces (λ d. map curve_id (h d))

-- what observers are told by points before a step (CGAL manual, `Arr_observer`)
abbrev pub intent_of : Step → Intent
intent_of (AddVertexAt p) = AddVertex p
intent_of (RemoveVertexAt p) = RemoveVertex p
intent_of (SplitEdgeAt p q r) = SplitEdge p q r
intent_of (MergeEdgeAt p) = MergeEdge p
intent_of (AddEdgeAt p q c) = AddEdge p q
intent_of (RemoveEdgeAt p q) = RemoveEdge p q
intent_of (AddCurveAt p q c) = AddCurve p q (curve_id c)
intent_of (RemoveCurveAt p q c) = RemoveCurve p q (curve_id c)
intent_of (SetPinAt p) = SetPin p
intent_of (ClearPinAt p) = ClearPin p
intent_of ClearAll = Clear

-- the records are sound, with their cycles and faces, and have the curves of their edges, an edit has begun, and each seated observer that tells holds the records' view (this project)
pub record AreInStep (m : MapView) (h : Curves) (b : BusRow) : Type 0 where
  pub sound : IsSound m.graph m.faces
  pub curves : AreCurvesOf m.graph h
  pub settled : b.settled ≡ true
  pub holds : All (Holds (seen m h)) b.seats

-- the map w and the curves k come of m and h by changes that make just these steps, one after the other, and the bus c comes of b by just two rounds for each: one before it, of the step by points, and one after it, of the change by names (CGAL manual, `Arr_observer`)
unfoldable pub IsToldRun : MapView → Curves → BusRow → List Step → MapView → Curves → BusRow → Type 0
IsToldRun m h b [] w k c = (w ≡ m) × ((d : DartId) → k d ≡ h d) × (c ≡ b)
IsToldRun m h b (s ∷ ss) w k c =
    (x : Change) × IsMapMade m h s x × (told : BusRow) × (heard : BusRow) × AreInRound (Before (intent_of s)) (seen m h) b told ×
    AreInRound (After x) (seen (step_map m x) (step_curves h x)) told heard × IsToldRun (step_map m x) (step_curves h x) heard ss w k c

-- the map w and the curves k have just come, by this change, of others, which the bus is in step with still (this project)
pub record IsJustChanged (x : Change) (w : MapView) (k : Curves) (b : BusRow) : Type 0 where
  pub before : MapView
  pub before_curves : Curves
  pub in_step : AreInStep before before_curves b
  pub made : IsMapMade before before_curves (step_of_change before.graph x) x
  pub view : w ≡ step_map before x
  pub curves : (d : DartId) → k d ≡ step_curves before_curves x d
