-- A small map in steps: the tables, computed.
use Rattle.std.proofs.Common.{refl}
use Rattle.slab_laws.specs.Tables.{row_at}
use Rattle.slab_laws.proofs.Examples.{opened}
use Rattle.arr_notes.specs.CycleNames.{cycle_label}
use Rattle.arr_notes.specs.FaceWriters.{put_name, del_name}
use Rattle.arr_notes.specs.NamedRows.{put, del, each}
use Rattle.face_steps.specs.MapInSteps.{MapInSteps}

pub map_in_steps : MapInSteps
unfolding row_at put del each put_name del_name cycle_label opened
map_in_steps = record {
  vertex_comes = refl;
  new_hole = refl;
  grows_at_end = refl;
  grows_at_start = refl;
  another_hole = refl;
  splits = refl;
  joins = refl;
  edge_in_two = refl;
  splits_again = refl;
  edges_in_one = refl;
  unites = refl;
  breaks = refl;
  unites_with_unbounded = refl;
  vanishes = refl;
  shrinks = refl;
  vertex_goes = refl;
  curve_comes = refl;
  curve_goes = refl;
  pin_set = refl;
  pin_cleared = refl;
  all_gone = refl;
  closed_is_outer = refl;
  hole_is_within = refl;
  vertex_is_within = refl;
  hole_is_apart = refl;
  vertex_is_apart = refl;
  half_is_outer = refl;
  vertex_is_above = refl;
  part_is_inner = refl;
}
