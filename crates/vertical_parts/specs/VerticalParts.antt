-- What lies directly above and below the vertices of a view.
use Rattle.std.specs.Prelude.{◌≡◌, ◌<◌, ◌-◌, ◌+◌, ℕ, true, false, cond, List, map, slice_get, Option, Some, None}
use Rattle.slab_laws.specs.Skeleton.{over, under, on_wall}
use Rattle.slab_laws.specs.SpansDrawn.{edge_of}
use Rattle.slab_laws.specs.Sound.{skeleton_of, edge_in}
use Rattle.slab_laws.specs.View.{View, HasVertex, point_in}
use Rattle.arr_notes.specs.Curves.{IsForward}
use Rattle.plane_graphs.specs.Ascending.{Member}
use Rattle.sound_views.specs.Orders.{vertex_order}
use Rattle.record_orders.specs.declared.vertices.VertexKey.{VertexKey}
use Rattle.edge_sweep.specs.declared.edges.SweptEdge.{SweptEdge}
use Rattle.vertical_laws.specs.Vertical.{Stop, vertex, edge, above_vertex, below_vertex}
use Rattle.vertical_parts.specs.declared.vertical.Next.{Next}
use Rattle.vertical_parts.specs.declared.vertical.Next.TheVariants.{Vertex, Edge, Open}
use Rattle.vertical_parts.specs.declared.vertical.Part.{Part}

-- what is named is the stop (CGAL manual, vertical decomposition)
abbrev pub IsNamed : View → Next → Option Stop → Type 0
IsNamed v (Vertex u) o = HasVertex v u × (o ≡ Some (vertex (point_in v u)))
IsNamed v (Edge d) o = IsForward v d × (o ≡ Some (edge (edge_in v d)))
IsNamed v Open o = o ≡ None

-- a vertex that is there, with what is directly above it and directly below it (CGAL manual, vertical decomposition)
pub record IsPartOf (v : View) (part : Part) : Type 0 where
  pub has : HasVertex v part.vertex
  pub above_it : IsNamed v part.above (above_vertex (skeleton_of v) (point_in v part.vertex))
  pub below_it : IsNamed v part.below (below_vertex (skeleton_of v) (point_in v part.vertex))

-- of all vertices, in point order (CGAL manual, vertical decomposition)
pub record ArePartsOf (v : View) (parts : List Part) : Type 0 where
  pub vertices : map (λ (p : Part). p.vertex) parts ≡ vertex_order v
  pub named : (p : Part) → Member p parts → IsPartOf v p

-- ---- told by the front and the vertices beside
-- below: the vertical edge, else the last vertex of the wall, unless the edge that is met passes above it (this project)
abbrev pub below_named : Option SweptEdge → Option VertexKey → Option SweptEdge → Next
below_named (Some k) last met = Edge k.dart
below_named None None None = Open
below_named None None (Some e) = Edge e.dart
below_named None (Some u) None = Vertex u.name
below_named None (Some u) (Some e) = cond (over (edge_of e.span) u.point) (Edge e.dart) (Vertex u.name)

-- above: the vertical edge, else the next vertex of the wall, unless the edge that is met passes below it (this project)
abbrev pub above_named : Option SweptEdge → Option VertexKey → Option SweptEdge → Next
above_named (Some k) first met = Edge k.dart
above_named None None None = Open
above_named None None (Some e) = Edge e.dart
above_named None (Some u) None = Vertex u.name
above_named None (Some u) (Some e) = cond (under (edge_of e.span) u.point) (Edge e.dart) (Vertex u.name)

-- the vertex before one in the list, where it is on its wall, and the one after it
abbrev pub IsWallBefore : List VertexKey → ℕ → Option VertexKey → Type 0
IsWallBefore ks i None = (k u : VertexKey) → 0 < i → slice_get ks (i - 1) ≡ Some k → slice_get ks i ≡ Some u → on_wall k.point u.point ≡ false
IsWallBefore ks i (Some k) = (0 < i) × (slice_get ks (i - 1) ≡ Some k) × ((u : VertexKey) → slice_get ks i ≡ Some u → on_wall k.point u.point ≡ true)

abbrev pub IsWallAfter : List VertexKey → ℕ → Option VertexKey → Type 0
IsWallAfter ks i None = (k u : VertexKey) → slice_get ks (i + 1) ≡ Some k → slice_get ks i ≡ Some u → on_wall k.point u.point ≡ false
IsWallAfter ks i (Some k) = (slice_get ks (i + 1) ≡ Some k) × ((u : VertexKey) → slice_get ks i ≡ Some u → on_wall k.point u.point ≡ true)
