-- What is taken of records that are read by name: their vertices, a forward dart for each edge, and the marks of edges.
use Rattle.std.specs.Prelude.{◌≡◌, List, map, filter, Bool}
use Rattle.std.specs.List.{AllByRecursion}
use Rattle.std.specs.List.Sorted.{IsStrictlyIncreasing}
use Rattle.exact_plane.specs.Span.{Span}
use Rattle.plane_graphs.specs.Graph.{Graph, Mark, mark, edges}
use Rattle.plane_graphs.specs.Line.{precedes}
use Rattle.plane_graphs.specs.Plane.{IsPlane}
use Rattle.slab_laws.specs.declared.names.CurveId.{CurveId}
use Rattle.slab_laws.specs.declared.names.DartId.{DartId}
use Rattle.slab_laws.specs.SpansDrawn.{edge_of}
use Rattle.slab_laws.specs.View.{View, line_in}
use Rattle.arr_notes.specs.RecordGraph.{drawn_graph}
use Rattle.subdivision_rows.specs.ByName.{numbers_of}
use Rattle.subdivision_rows.specs.Listed.{AreLinesOf}
use Rattle.record_orders.specs.declared.darts.DartKey.{DartKey}
use Rattle.record_orders.specs.Keys.{dart_keys}
use Rattle.subdivision_rows.specs.GraphInMemory.{graph_in, drawing_in}
use Rattle.plain_slabs.specs.declared.names.Parts.{Parts}

-- the graph that the records draw, with the curves that they name
abbrev pub graph_by : View → (DartId → List CurveId) → Graph
graph_by v c = drawn_graph v (numbers_of c)

-- the curves of each dart ascend, each once
abbrev pub DoCurvesAscend : (DartId → List CurveId) → List DartKey → Type 0
DoCurvesAscend c ks = AllByRecursion (λ k. IsStrictlyIncreasing (numbers_of c k.name)) ks

-- the dart goes from the lower to the upper end of its edge
abbrev pub goes_forward : DartKey → Bool
goes_forward k = precedes k.source k.target

-- the forward darts in their order, one for each edge
abbrev pub forward_keys : View → List DartKey
forward_keys v = filter goes_forward (dart_keys v)

-- the edge of a forward dart, with its line
abbrev pub span_along : View → DartKey → Span
span_along v k = record { lower = k.source; upper = k.target; line = line_in v k.name }

-- the marks of its edge, one for each curve
abbrev pub key_marks : (DartId → List CurveId) → DartKey → List Mark
key_marks c k = map (mark k.source k.target) (numbers_of c k.name)

-- the parts make the graph that the records draw, which is plane, and have the lines of its edges
pub record AreParts (v : View) (c : DartId → List CurveId) (p : Parts) : Type 0 where
  pub graph : graph_in p.points.items p.marks.items p.pins.items ≡ graph_by v c
  pub plane : IsPlane (graph_in p.points.items p.marks.items p.pins.items)
  pub edges_are : map edge_of p.edges.items ≡ edges (graph_in p.points.items p.marks.items p.pins.items)
  pub lines : AreLinesOf (drawing_in p.points.items p.marks.items p.pins.items p.edges.items)
