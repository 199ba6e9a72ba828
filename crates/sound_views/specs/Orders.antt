-- The names of a view in the orders that texts use.
use Rattle.std.specs.Prelude.{List, map}
use Rattle.exact_plane.specs.PointOrder.{point_cmp}
use Rattle.plane_graphs.specs.Ascending.{ascending}
use Rattle.slab_laws.specs.declared.names.DartId.{DartId}
use Rattle.slab_laws.specs.declared.names.VertexId.{VertexId}
use Rattle.slab_laws.specs.Rotation.{dart_cmp}
use Rattle.slab_laws.specs.Sound.{dart_in}
use Rattle.slab_laws.specs.Tables.{names}
use Rattle.slab_laws.specs.View.{View, vertex_id, dart_id, point_in}

-- the names of the vertices, by their points (this project)
unfoldable pub vertex_order : View → List VertexId
vertex_order v = ascending (λ u w. point_cmp (point_in v u) (point_in v w)) (map vertex_id (names v.vertices))

-- the names of the darts, by source, then by target (this project)
unfoldable pub dart_order : View → List DartId
dart_order v = ascending (λ d e. dart_cmp (dart_in v d) (dart_in v e)) (map dart_id (names v.darts))
