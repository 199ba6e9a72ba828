-- The laws of the graph of a present.
use Rattle.std.specs.Prelude.{◌≡◌, ◌↔◌, [], ◌∷◌, map, true, false, ◌&&◌}
use Rattle.std.specs.List.{filter, list_any, IsDistinct}
use Rattle.std.specs.Ordering.{nat_cmp, eq_by_cmp}
use Rattle.exact_plane.specs.Point.{Point}
use Rattle.exact_plane.specs.PointOrder.{point_cmp}
use Rattle.plane_graphs.specs.Ascending.{Member, IsAscending, ascending}
use Rattle.plane_graphs.specs.Piece.{Piece, Present, on}
use Rattle.plane_graphs.specs.Graph.{Graph, Mark, Edge, edge_cmp, graph, crosses, vertices, edges, marks, is_at, curves, chain}
use Rattle.plane_graphs.specs.Fit.{IsFit}
use Rattle.plane_graphs.specs.Plane.{IsPlane}
use Rattle.plane_graphs.specs.Meaning.{IsVertexOf, IsEdgeOf, IsListed, IsStraightLineGraph}

-- vertices, edges and the curves of an edge ascend, and each stands once
pub record StandOnce : Type 0 where
  pub vertices_ascend : (p : Present) → IsAscending point_cmp (vertices p)
  pub vertices_once : (p : Present) → IsDistinct (eq_by_cmp point_cmp) (vertices p)
  pub edges_ascend : (g : Graph) → IsAscending edge_cmp (edges g)
  pub edges_once : (g : Graph) → IsDistinct (eq_by_cmp edge_cmp) (edges g)
  pub curves_ascend : (g : Graph) (a b : Point) → IsAscending nat_cmp (curves g a b)
  pub curves_once : (g : Graph) (a b : Point) → IsDistinct (eq_by_cmp nat_cmp) (curves g a b)

-- the vertices are the ends, the pins, and the points on two pieces of different lines
abbrev pub VerticesAre : Type 0
VerticesAre = (p : Present) (x : Point) → IsFit p → (Member x (vertices p) ↔ IsVertexOf p x)

-- the edges are the pairs of vertices on one piece with no vertex strictly between on it
abbrev pub EdgesAre : Type 0
EdgesAre = (p : Present) (e : Edge) → (Member e (edges (graph p)) ↔ IsEdgeOf p e.low e.high)

-- the graph of a fit present is plane
abbrev pub GraphIsPlane : Type 0
GraphIsPlane = (p : Present) → IsFit p → IsPlane (graph p)

-- a graph is plane exactly where its lists ascend and its points and edges draw a plane graph
abbrev pub PlaneIsDrawn : Type 0
PlaneIsDrawn = (g : Graph) → (IsPlane g ↔ (IsListed g × IsStraightLineGraph g.points (edges g)))

-- no edge of a plane graph crosses another, by signs
abbrev pub NoneCross : Type 0
NoneCross = (g : Graph) → IsPlane g → (m n : Mark) → Member m g.marks → Member n g.marks → crosses m n ≡ false

-- on an edge run the curves of all pieces that hold both its ends
abbrev pub CurvesOfEdge : Type 0
CurvesOfEdge = (p : Present) (a b : Point) → IsFit p → list_any (is_at a b) (graph p).marks ≡ true → curves (graph p) a b ≡ ascending nat_cmp (map (λ k. k.curve) (filter (λ k. on k a && on k b) p.pieces))

-- the edges of a piece join neighbouring vertices on it
abbrev pub EdgesOfPiece : Type 0
EdgesOfPiece = (p : Present) (k : Piece) → IsFit p → Member k p.pieces → marks (vertices p) (k ∷ []) ≡ chain k.curve (filter (on k) (vertices p))
