-- The vertices at the ends of edges.
use Rattle.std.specs.Prelude.{List, [], ◌∷◌, map}
use Rattle.std.specs.List.{AllByRecursion}
use Rattle.exact_plane.specs.PointOrder.{point_cmp}
use Rattle.plane_graphs.specs.Ascending.{Member, IsAscending}
use Rattle.slab_laws.specs.declared.names.VertexId.{VertexId}
use Rattle.slab_laws.specs.View.{View, HasVertex, point_in, source_in, target_in}
use Rattle.record_orders.specs.declared.darts.DartKey.{DartKey}
use Rattle.record_orders.specs.declared.vertices.VertexKey.{VertexKey}
use Rattle.record_orders.specs.Keys.{vertex_key}

-- both ends of an edge (CGAL manual, source and target of a halfedge)
abbrev pub two_ends : View → DartKey → List VertexKey
two_ends v k = vertex_key v (source_in v k.name) ∷ vertex_key v (target_in v k.name) ∷ []

-- the vertices, ascending by their points, have both ends of each edge (this project)
pub record AreEnds (v : View) (ks : List DartKey) (ws : List VertexId) : Type 0 where
  pub have : AllByRecursion (λ w. HasVertex v w) ws
  pub ascend : IsAscending point_cmp (map (point_in v) ws)
  pub ends : (k : DartKey) → Member k ks → Member (source_in v k.name) ws × Member (target_in v k.name) ws
