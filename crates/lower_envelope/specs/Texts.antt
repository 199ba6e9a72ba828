-- What is written of an envelope, by the names of records.
use Rattle.std.specs.Prelude.{◌≡◌, ◌↔◌, ℕ, List, map}
use Rattle.plane_graphs.specs.Ascending.{Member}
use Rattle.plane_graphs.specs.Graph.{Graph}
use Rattle.slab_laws.specs.declared.names.CurveId.{CurveId}
use Rattle.slab_laws.specs.declared.names.DartId.{DartId}
use Rattle.slab_laws.specs.declared.names.VertexId.{VertexId}
use Rattle.slab_laws.specs.View.{View, IsOutOf, twin_in}
use Rattle.arr_notes.specs.Curves.{Curves, AreCurvesOf}
use Rattle.arr_notes.specs.CurvedView.{AreListsOf}
use Rattle.arr_notes.specs.RecordGraph.{drawn_graph}

-- it holds of the graph that the records draw, with the curves that are listed
abbrev pub HoldsOfGraph : View → (DartId → List CurveId) → (Graph → Type 0) → Type 0
HoldsOfGraph v k P = (h : Curves) → AreCurvesOf v h → AreListsOf v h k → P (drawn_graph v h)

-- the curve is listed for a dart out of the vertex
abbrev pub IsCurveOut : View → (DartId → List CurveId) → VertexId → ℕ → Type 0
IsCurveOut v k u n = (d : DartId) × IsOutOf v u d × Member n (map (λ c. c.0) (k d))

-- the curves are just those that are listed for darts out of the vertex, each of which has the same curves as its twin (CGAL manual, circulator around a vertex)
pub record AreCurvesRound (v : View) (k : DartId → List CurveId) (u : VertexId) (cs : List CurveId) : Type 0 where
  pub just : (n : ℕ) → Member n (map (λ c. c.0) cs) ↔ IsCurveOut v k u n
  pub twins : (d : DartId) → IsOutOf v u d → k (twin_in v d) ≡ k d
