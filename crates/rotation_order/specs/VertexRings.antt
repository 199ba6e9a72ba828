-- The rings of darts of a view.
use Rattle.std.specs.Prelude.{is_some}
use Rattle.rotation_order.specs.Ring.{Turns, IsRing}
use Rattle.slab_laws.specs.declared.names.DartId.{DartId}
use Rattle.slab_laws.specs.declared.names.VertexId.{VertexId}
use Rattle.slab_laws.specs.Darts.{Dart}
use Rattle.slab_laws.specs.Rotation.{earlier, OutOf}
use Rattle.slab_laws.specs.Sound.{skeleton_of, dart_in}
use Rattle.slab_laws.specs.Tables.{row_at}
use Rattle.slab_laws.specs.View.{View, IsOutOf, dart_id, point_in, source_in, twin_in, next_in}

-- the view's darts by name, each followed by what comes after its twin (CGAL manual, circulator around a vertex)
abbrev pub turns_in : View → Turns Dart
turns_in v = record {
  has = λ n. is_some (row_at v.darts n);
  source = λ n. (source_in v (dart_id n)).0;
  way = λ n. dart_in v (dart_id n);
  after = λ n. (next_in v (twin_in v (dart_id n))).0;
}

-- the darts named out of w are a ring, clockwise by the order of the graph that the view draws (this project)
abbrev pub RingOf : View → VertexId → Type 0
RingOf v w = IsRing earlier (OutOf (skeleton_of v) (point_in v w)) (turns_in v) w.0

-- no dart leaves w (CGAL manual, isolated vertex)
abbrev pub IsBare : View → VertexId → Type 0
IsBare v w = (d : DartId) → ¬ IsOutOf v w d
