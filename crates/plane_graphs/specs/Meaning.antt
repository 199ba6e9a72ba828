-- What the lists of the model hold, in the field's own words; the laws tie both.
use Rattle.std.specs.Prelude.{◌≡◌, ◌≢◌, ◌⊎◌, List, true, false}
use Rattle.std.specs.List.{IsDistinct}
use Rattle.std.specs.Ordering.{eq_by_cmp}
use Rattle.exact_plane.specs.Point.{Point}
use Rattle.exact_plane.specs.PointOrder.{point_cmp}
use Rattle.plane_graphs.specs.Ascending.{Member, IsAscending}
use Rattle.plane_graphs.specs.Line.{IsProper, precedes}
use Rattle.exact_plane.specs.Segment.{line_of_segment}
use Rattle.plane_graphs.specs.Piece.{Piece, Present, on}
use Rattle.plane_graphs.specs.Graph.{Graph, Edge, mark_cmp, edge_cmp, vertices, between, spans}

-- x is on two pieces of different lines (CGAL manual)
pub record IsMeeting (p : Present) (x : Point) : Type 0 where
  pub one : Piece
  pub other : Piece
  pub one_in : Member one p.pieces
  pub other_in : Member other p.pieces
  pub lines_differ : line_of_segment one.segment ≢ line_of_segment other.segment
  pub proper : IsProper x
  pub on_one : on one x ≡ true
  pub on_other : on other x ≡ true

-- x is an end of the piece
pub record IsEndOfPiece (p : Present) (x : Point) : Type 0 where
  pub piece : Piece
  pub piece_in : Member piece p.pieces
  pub end : (x ≡ piece.from) ⊎ (x ≡ piece.to)

-- x is an end of a piece, a pin, or on two pieces of different lines (CGAL manual; pins: this project)
abbrev pub IsVertexOf : Present → Point → Type 0
IsVertexOf p x = IsEndOfPiece p x ⊎ (Member x p.pins ⊎ IsMeeting p x)

-- a < b are vertices on one piece, with no vertex strictly between on it (CGAL manual)
pub record IsEdgeOf (p : Present) (a b : Point) : Type 0 where
  pub piece : Piece
  pub piece_in : Member piece p.pieces
  pub first : Member a (vertices p)
  pub last : Member b (vertices p)
  pub forward : precedes a b ≡ true
  pub on_first : on piece a ≡ true
  pub on_last : on piece b ≡ true
  pub none_between : (r : Point) → Member r (vertices p) → precedes a r ≡ true → precedes r b ≡ true → on piece r ≡ false

-- t is an end of the edge
abbrev pub IsEndOfEdge : Point → Edge → Type 0
IsEndOfEdge t e = (t ≡ e.low) ⊎ (t ≡ e.high)

-- points and pairs of points that draw a plane graph: each point stands once, each pair p < q stands once and has both its points in the list, no vertex lies strictly inside an edge, and two edges share ends only (Fogel, Halperin and Wein)
pub record IsStraightLineGraph (points : List Point) (edges : List Edge) : Type 0 where
  pub points_once : IsDistinct (eq_by_cmp point_cmp) points
  pub edges_once : IsDistinct (eq_by_cmp edge_cmp) edges
  pub forward : (e : Edge) → Member e edges → precedes e.low e.high ≡ true
  pub ends_in : (e : Edge) → Member e edges → Member e.low points × Member e.high points
  pub none_inside : (e : Edge) (x : Point) → Member e edges → Member x points → between e.low e.high x ≡ false
  pub share_ends : (e f : Edge) (t : Point) → Member e edges → Member f edges → IsProper t → spans e.low e.high t ≡ true → spans f.low f.high t ≡ true → (e ≡ f) ⊎ (IsEndOfEdge t e × IsEndOfEdge t f)

-- the lists of a graph ascend, and its points are points (this project)
pub record IsListed (g : Graph) : Type 0 where
  pub points_ascend : IsAscending point_cmp g.points
  pub marks_ascend : IsAscending mark_cmp g.marks
  pub proper : (x : Point) → Member x g.points → IsProper x
