-- What the questions about one edge and one curve are answered.
use Rattle.std.specs.Prelude.{◌≡◌, ◌↔◌, ⊤, ℕ, IsTrue, List, Option, Some, None, map}
use Rattle.exact_plane.specs.Point.{Point}
use Rattle.plane_graphs.specs.Ascending.{Member}
use Rattle.plane_graphs.specs.Graph.{graph, edges, curves}
use Rattle.record_orders.specs.Edges.{edge_of}
use Rattle.slab_laws.specs.Sound.{edge_between}
use Rattle.slab_laws.specs.Text.{present_text}
use Rattle.slab_laws.specs.declared.names.Strategy.{Strategy}
use Rattle.slab_laws.specs.declared.names.Strategy.TheVariants.{Naive, Walk, Landmarks, Trapezoid}
use Rattle.observer_bus.specs.Seats.{SeatRow}
use Rattle.arrangement.specs.Arranged.{Arranged, layer_in}

-- the curves along the edge between two points, which come in either order (CGAL manual, originating curves)
abbrev pub curves_between : Arranged → Point → Point → List ℕ
curves_between a p q = curves (graph (layer_in a).present) (edge_between p q).low (edge_between p q).high

-- no edge joins the points
abbrev pub IsNoEdge : Arranged → Point → Point → Type 0
IsNoEdge a p q = ¬ Member (edge_between p q) (edges (graph (layer_in a).present))

-- the pairs are the ends of the edges along which the curve runs (CGAL manual, induced edges)
abbrev pub AreEdgesOf : Arranged → ℕ → List (Point × Point) → Type 0
AreEdgesOf a c ps =
    (e : _) → Member e (map edge_of ps) ↔ (Member e (edges (graph (layer_in a).present)) × Member c (curves (graph (layer_in a).present) e.low e.high))

-- location by landmarks or by the trapezoidal map may ask for memory, the other two never do (this project)
abbrev pub TakesMemory : Strategy → Type 0
TakesMemory Naive = ⊥
TakesMemory Walk = ⊥
TakesMemory Landmarks = ⊤
TakesMemory Trapezoid = ⊤

-- the bytes are the text of the subdivision, where a seated observer of the name tells a view; there is one (this project)
abbrev pub IsReportOf : Arranged → Option SeatRow → List ℕ → Type 0
IsReportOf a None bytes = ⊥
IsReportOf a (Some s) bytes = IsTrue s.tells → bytes ≡ present_text (layer_in a).present
