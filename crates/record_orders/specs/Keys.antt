-- Vertices and darts with the points that order them.
use Rattle.std.specs.Prelude.{List, map}
use Rattle.slab_laws.specs.declared.names.DartId.{DartId}
use Rattle.slab_laws.specs.declared.names.VertexId.{VertexId}
use Rattle.slab_laws.specs.View.{View, point_in, source_in, target_in}
use Rattle.sound_views.specs.Orders.{vertex_order, dart_order}
use Rattle.record_orders.specs.declared.vertices.VertexKey.{VertexKey}
use Rattle.record_orders.specs.declared.darts.DartKey.{DartKey}

-- a vertex with its point
abbrev pub vertex_key : View → VertexId → VertexKey
vertex_key v u = record { point = point_in v u; name = u }

-- a dart with the points of its ends
abbrev pub dart_key : View → DartId → DartKey
dart_key v d = record { source = point_in v (source_in v d); target = point_in v (target_in v d); name = d }

-- the vertices in point order
abbrev pub vertex_keys : View → List VertexKey
vertex_keys v = map (vertex_key v) (vertex_order v)

-- the darts by source, then by target
abbrev pub dart_keys : View → List DartKey
dart_keys v = map (dart_key v) (dart_order v)
