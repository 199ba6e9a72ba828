-- Every change that fits is the step of its graph, and leaves the records sound where the step leaves the graph plane.
use Rattle.std.proofs.Common.{true, false, sym, subst}
use Rattle.plane_graphs.specs.Plane.{IsPlane}
use Rattle.edit_steps.specs.Steps.{apply}
use Rattle.slab_laws.specs.Skeleton.{IsPlaneSkeleton}
use Rattle.slab_laws.specs.Sound.{IsGraphSound, skeleton_of}
use Rattle.slab_laws.specs.View.{View}
use Rattle.arr_notes.specs.declared.change.Change.{Change}
use Rattle.arr_notes.specs.declared.change.Change.TheVariants.{AddVertex, RemoveVertex, SplitEdge, MergeEdge, AddEdge, RemoveEdge, AddCurve, RemoveCurve, SetPin, ClearPin, Clear}
use Rattle.arr_notes.specs.Curves.{Curves, step_curves}
use Rattle.arr_notes.specs.Step.{step, remove_edge}
use Rattle.arr_notes.specs.RecordGraph.{drawn_graph}
use Rattle.sound_changes.proofs.EdgeAdded.{added}
use Rattle.sound_changes.proofs.EdgeRemoved.{removed}
use Rattle.sound_changes.proofs.VertexRemoved.{vertex_fewer}
use Rattle.sound_changes.proofs.Merges.{merge_sound}
use Rattle.sound_changes.proofs.Splits.{split_sound}
use Rattle.sound_changes.proofs.VertexAdded.{vertex_more, pinned, no_rows_sound}
use Rattle.sound_changes.specs.StepOfChange.{step_of_change}
use Rattle.sound_changes.specs.StepLaws.{IsApplied, ChangesAreSteps, ChangesKeepViewsSound}
use Rattle.sound_changes.proofs.StepClear.{all_cleared}
use Rattle.sound_changes.proofs.StepRemoveCurve.{curve_removed}
use Rattle.sound_changes.proofs.StepAddCurve.{curve_added}
use Rattle.sound_changes.proofs.StepRemoveEdge.{edge_removed}
use Rattle.sound_changes.proofs.StepAddEdge.{edge_added, edge_more_paired}
use Rattle.sound_changes.proofs.StepMerge.{edge_merged}
use Rattle.sound_changes.proofs.StepPins.{pin_set, pin_cleared}
use Rattle.sound_changes.proofs.StepSkeletons.{IsPaired, plane_skeleton}
use Rattle.sound_changes.proofs.StepSplit.{edge_split}
use Rattle.sound_changes.proofs.StepRemoveVertex.{vertex_removed}
use Rattle.sound_changes.proofs.StepAddVertex.{vertex_added, more_paired}

pub changes_are_steps : ChangesAreSteps
changes_are_steps v h (AddVertex w p face) s a f = vertex_added v w p s f h a face
changes_are_steps v h (RemoveVertex w) s a f = vertex_removed v w s f.0 f.2 f.1 h a
changes_are_steps v h (SplitEdge d w p n m) s a f = edge_split v d w p n m s f h a
changes_are_steps v h (MergeEdge w d n) s a f = edge_merged v w d n s f.0 h a f.1 f.2
changes_are_steps v h (AddEdge d m u w at_u at_w l c faces) s a f = edge_added v d m u w at_u at_w l s f.0 f.1 h a c faces
changes_are_steps v h (RemoveEdge d m faces) s a f = edge_removed v d s f.0 h a faces m f.1
changes_are_steps v h (AddCurve d c) s a f = curve_added v h d c s a f
changes_are_steps v h (RemoveCurve d c) s a f = curve_removed v h d c s a f.0 f.1
changes_are_steps v h (SetPin w) s a f = pin_set v w s f h a
changes_are_steps v h (ClearPin w) s a f = pin_cleared v w s f h a
changes_are_steps v h (Clear face) s a f = all_cleared v h face

-- what the records draw after the change is plane
plane_after : (v : View) (h : Curves) (c : Change) → IsApplied v h c → IsPaired (step v c) → IsPlane (apply (step_of_change v c) (drawn_graph v h)) → IsPlaneSkeleton (skeleton_of (step v c))
plane_after v h c k paired plane = plane_skeleton (step v c) (step_curves h c) paired k.curves (subst IsPlane (sym k.graph) plane)

pub changes_keep_views_sound : ChangesKeepViewsSound
changes_keep_views_sound v h (AddVertex w p face) s a f plane = vertex_more v w p s f (plane_after v h (AddVertex w p face) (changes_are_steps v h (AddVertex w p face) s a f) (more_paired v w p s f) plane)
changes_keep_views_sound v h (RemoveVertex w) s a f plane = vertex_fewer v w s f.1
changes_keep_views_sound v h (SplitEdge d w p n m) s a f plane = split_sound v d w p n m s f
changes_keep_views_sound v h (MergeEdge w d n) s a f plane = merge_sound v w d n s f.0
changes_keep_views_sound v h (AddEdge d m u w at_u at_w l c faces) s a f plane =
    added v d m u w at_u at_w l s f.0
    (plane_after v h (AddEdge d m u w at_u at_w l c faces) (changes_are_steps v h (AddEdge d m u w at_u at_w l c faces) s a f) (edge_more_paired v d m u w at_u at_w l s f.0 f.1) plane)
changes_keep_views_sound v h (RemoveEdge d m faces) s a f plane = subst (λ x. IsGraphSound (remove_edge v d x)) (sym f.1) (removed v d s f.0.0)
changes_keep_views_sound v h (AddCurve d c) s a f plane = s
changes_keep_views_sound v h (RemoveCurve d c) s a f plane = s
changes_keep_views_sound v h (SetPin w) s a f plane = pinned v w true s
changes_keep_views_sound v h (ClearPin w) s a f plane = pinned v w false s
changes_keep_views_sound v h (Clear face) s a f plane = no_rows_sound
