-- A graph by the names of records: each vertex, edge and pin has a name, and each name is one of these.
use Rattle.std.specs.Prelude.{◌≡◌, true}
use Rattle.exact_plane.specs.Point.{Point}
use Rattle.plane_graphs.specs.Ascending.{Member}
use Rattle.plane_graphs.specs.Graph.{Graph, Edge, graph, edges, curves}
use Rattle.slab_laws.specs.declared.names.DartId.{DartId}
use Rattle.slab_laws.specs.declared.names.VertexId.{VertexId}
use Rattle.slab_laws.specs.View.{View, HasVertex, point_in, pinned_in, source_in, target_in}
use Rattle.arr_notes.specs.Curves.{Curves, IsForward}
use Rattle.sound_views.specs.RecordGraphLaws.{IsVertexAt}
use Rattle.curve_history.specs.Past.{Past, curves_on}
use Rattle.told_steps.specs.RecordLayers.{IsLayer, layer_of}

-- the edge between the points of a dart's ends, the source's first
abbrev pub edge_ahead : View → DartId → Edge
edge_ahead v d = record { low = point_in v (source_in v d); high = point_in v (target_in v d) }

-- the dart goes along the edge, from its lower to its upper end (CGAL manual, direction of a halfedge)
pub record IsForwardOn (v : View) (e : Edge) (d : DartId) : Type 0 where
  pub forward : IsForward v d
  pub low : point_in v (source_in v d) ≡ e.low
  pub high : point_in v (target_in v d) ≡ e.high

-- a vertex of the records stands at the point, and is pinned
pub record IsPinAt (v : View) (x : Point) (w : VertexId) : Type 0 where
  pub vertex : IsVertexAt v x w
  pub pinned : pinned_in v w ≡ true

-- the records, with these curves of their forward darts, name the graph: its vertices are the records' points, its edges the records' forward darts with their curves, and its pins the records' pinned vertices (CGAL manual, `Arrangement_with_history_2`)
pub record IsNamedBy (v : View) (h : Curves) (g : Graph) : Type 0 where
  pub vertex_name : (x : Point) → Member x g.points → (w : VertexId) × IsVertexAt v x w
  pub name_vertex : (w : VertexId) → HasVertex v w → Member (point_in v w) g.points
  pub edge_name : (e : Edge) → Member e (edges g) → (d : DartId) × IsForwardOn v e d
  pub name_edge : (d : DartId) → IsForward v d → Member (edge_ahead v d) (edges g)
  pub curves : (d : DartId) → IsForward v d → h d ≡ curves g (point_in v (source_in v d)) (point_in v (target_in v d))
  pub pin_name : (x : Point) → Member x g.pins → (w : VertexId) × IsPinAt v x w
  pub name_pin : (w : VertexId) → HasVertex v w → pinned_in v w ≡ true → Member (point_in v w) g.pins

-- records that stand for a layer name the graph of its present, and their history has its curves
abbrev pub LayersAreNamed : Type 0
LayersAreNamed = (v : View) (p : Past) → IsLayer v p → IsNamedBy v (curves_on p) (graph (layer_of v p).present)
