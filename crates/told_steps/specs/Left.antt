-- What is to be tidied once edges went.
use Rattle.std.specs.Prelude.{◌≡◌, List, map}
use Rattle.exact_plane.specs.Point.{Point}
use Rattle.plane_graphs.specs.Ascending.{Member}
use Rattle.plane_graphs.specs.Fit.{IsFit}
use Rattle.plane_graphs.specs.Graph.{Graph, graph_over, vertices}
use Rattle.plane_graphs.specs.Piece.{Present}
use Rattle.plane_graphs.specs.Strands.{strand_pieces}
use Rattle.edit_steps.specs.Steps.{Step, missing_points, tidy_steps}
use Rattle.slab_laws.specs.declared.names.VertexId.{VertexId}
use Rattle.slab_laws.specs.View.{View, point_in}
use Rattle.arr_notes.specs.MapView.{MapView}
use Rattle.arr_notes.specs.RecordGraph.{drawn_graph}
use Rattle.curve_history.specs.Past.{Past, curves_on}
use Rattle.observer_bus.specs.Rounds.{BusRow}
use Rattle.told_steps.specs.SidedRuns.{IsSidedRun}
use Rattle.told_steps.specs.StrandRuns.{strand_graph}

-- the records and their history draw the pieces and pins of a present, with the sides of curves told apart or not, over points that have all its vertices; those that are no vertices of it are among xs (this project)
pub record AreLeft (v : View) (h : Past) (p : Present) (xs : List Point) : Type 0 where
  pub fit : IsFit p
  pub draws : drawn_graph v (curves_on h) ≡ graph_over (drawn_graph v (curves_on h)).points p.pieces p.pins
  pub strands : strand_graph v h ≡ graph_over (drawn_graph v (curves_on h)).points (strand_pieces p.pieces) p.pins
  pub have : (x : Point) → Member x (vertices p) → Member x (drawn_graph v (curves_on h)).points
  pub others : (x : Point) → Member x (drawn_graph v (curves_on h)).points → (Member x (vertices p) → ⊥) → Member x xs

-- the steps that take away each point of the graph that is no vertex of the present, in ascending order (CGAL manual, removing a curve: vertices that become redundant)
abbrev pub tidying : Graph → Present → List Step
tidying g p = tidy_steps (missing_points g.points (vertices p)) g

-- for each present that the records draw over its vertices and further points, which are all among the given ones: just the further points go, in ascending order, each step told (CGAL manual, removing a curve: vertices that become redundant)
abbrev pub AreOthersGone : MapView → Past → BusRow → List VertexId → MapView → Past → BusRow → Type 0
AreOthersGone m h b ws w k c = (p : Present) → AreLeft m.graph h p (map (point_in m.graph) ws) → IsSidedRun m h b (tidying (drawn_graph m.graph (curves_on h)) p) w k c
