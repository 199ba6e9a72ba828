-- A change of records as a step of the graph that they draw.
use Rattle.std.specs.Prelude.{◌≡◌, not, true, false}
use Rattle.std.specs.List.{list_any}
use Rattle.plane_graphs.specs.Graph.{same_curve}
use Rattle.plane_graphs.specs.Line.{precedes}
use Rattle.edit_steps.specs.Steps.{Step, AddVertex as AddVertexAt, RemoveVertex as RemoveVertexAt, SplitEdge as SplitEdgeAt, MergeEdge as MergeEdgeAt, AddEdge as AddEdgeAt, RemoveEdge as RemoveEdgeAt, AddCurve as AddCurveAt, RemoveCurve as RemoveCurveAt, SetPin as SetPinAt, ClearPin as ClearPinAt, Clear as ClearAll}
use Rattle.slab_laws.specs.View.{View, HasVertex, point_in, pinned_in, source_in, target_in, twin_in}
use Rattle.arr_notes.specs.declared.change.Change.{Change}
use Rattle.arr_notes.specs.declared.change.Change.TheVariants.{AddVertex, RemoveVertex, SplitEdge, MergeEdge, AddEdge, RemoveEdge, AddCurve, RemoveCurve, SetPin, ClearPin, Clear}
use Rattle.arr_notes.specs.Curves.{Curves, IsForward}
use Rattle.sound_changes.specs.EdgePlaces.{FitsAddedEdge}
use Rattle.rotation_order.specs.VertexRings.{IsBare}
use Rattle.sound_changes.specs.ChangeFits.{IsNewVertex, FitsSplit, FitsMerge}

-- the change by points, in the view that it meets (CGAL manual, `Arr_observer`; the list is this project's)
abbrev pub step_of_change : View → Change → Step
step_of_change v (AddVertex w p face) = AddVertexAt p
step_of_change v (RemoveVertex w) = RemoveVertexAt (point_in v w)
step_of_change v (SplitEdge d w p n m) = SplitEdgeAt (point_in v (source_in v d)) (point_in v (target_in v d)) p
step_of_change v (MergeEdge w d n) = MergeEdgeAt (point_in v w)
step_of_change v (AddEdge d m u w at_u at_w l c faces) = AddEdgeAt (point_in v u) (point_in v w) c.0
step_of_change v (RemoveEdge d m faces) = RemoveEdgeAt (point_in v (source_in v d)) (point_in v (target_in v d))
step_of_change v (AddCurve d c) = AddCurveAt (point_in v (source_in v d)) (point_in v (target_in v d)) c.0
step_of_change v (RemoveCurve d c) = RemoveCurveAt (point_in v (source_in v d)) (point_in v (target_in v d)) c.0
step_of_change v (SetPin w) = SetPinAt (point_in v w)
step_of_change v (ClearPin w) = ClearPinAt (point_in v w)
step_of_change v (Clear face) = ClearAll

-- what a change asks of the view and of the curves that it meets; darts of edges are told by those from the lower to the upper end (this project)
abbrev pub FitsChange : View → Curves → Change → Type 0
FitsChange v h (AddVertex w p face) = IsNewVertex v w p
FitsChange v h (RemoveVertex w) = HasVertex v w × IsBare v w × (pinned_in v w ≡ false)
FitsChange v h (SplitEdge d w p n m) = FitsSplit v d w p n m
FitsChange v h (MergeEdge w d n) = FitsMerge v w d n × (pinned_in v w ≡ false) × (h d ≡ h n)
FitsChange v h (AddEdge d m u w at_u at_w l c faces) = FitsAddedEdge v d m u w at_u at_w l × (precedes (point_in v u) (point_in v w) ≡ true)
FitsChange v h (RemoveEdge d m faces) = IsForward v d × (m ≡ twin_in v d)
FitsChange v h (AddCurve d c) = IsForward v d
FitsChange v h (RemoveCurve d c) = IsForward v d × (list_any (λ k. not (same_curve k c.0)) (h d) ≡ true)
FitsChange v h (SetPin w) = HasVertex v w
FitsChange v h (ClearPin w) = HasVertex v w
FitsChange v h (Clear face) = Unit {0}
