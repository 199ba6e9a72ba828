-- What is read of the view with two edges in one: seen from there, the edge of d was split at w.
use Rattle.std.proofs.Common.{refl}
use Rattle.slab_laws.specs.declared.names.DartId.{DartId}
use Rattle.slab_laws.specs.declared.names.VertexId.{VertexId}
use Rattle.slab_laws.specs.Sound.{IsGraphSound}
use Rattle.slab_laws.specs.View.{View, point_in, twin_in}
use Rattle.arr_notes.specs.Step.{merge_edge}
use Rattle.sound_changes.specs.ChangeFits.{FitsMerge}
use Rattle.sound_changes.proofs.Merges.{halved, twinned_g, sourced_g, before_g, behind_g}
use Rattle.sound_changes.proofs.StepSplitEdge.{IsPartedAt}

pub joined : (v : View) (w : VertexId) (d n : DartId) (s : IsGraphSound v) (c : FitsMerge v w d n) → IsPartedAt (merge_edge v w d n) v d (twin_in v d) n (twin_in v n) w (point_in v w)
joined v w d n s c = record {
  halved = halved v w d n s c;
  twinned = twinned_g v w d n s c;
  sourced = sourced_g v w d n s c;
  at_w = refl;
  before = before_g v w d n s c;
  behind = behind_g v w d n s c;
}
