-- The planar graph that a present induces: its vertices, and its edges with their curves.
use Rattle.std.specs.Prelude.{ℕ, ℤ, pos, ◌*ℤ◌, ◌+ℤ◌, ◌-ℤ◌, List, [], ◌∷◌, ◌++◌, map, Bool, cond, not, ◌&&◌}
use Rattle.std.specs.List.{filter, list_any, flat_map}
use Rattle.std.specs.Ordering.{is_lt, is_eq, ordering_then, nat_cmp, int_cmp, int_eq}
use Rattle.std.specs.declared.cmp.Ordering.{Ordering}
use Rattle.exact_plane.specs.Point.{Point}
use Rattle.exact_plane.specs.PointOrder.{point_cmp}
use Rattle.plane_graphs.specs.Ascending.{ascending}
use Rattle.plane_graphs.specs.Line.{precedes, same_point, are_parallel, crossing}
use Rattle.exact_plane.specs.Line.{Line}
use Rattle.exact_plane.specs.Segment.{line_of_segment}
use Rattle.plane_graphs.specs.Piece.{Piece, Present, along, on}

-- one curve along the edge from low to high: an edge with n curves is n marks (this project; edges with their originating curves: CGAL manual, arrangements with history)
pub record Mark : Type 0 where
  pub low : Point
  pub high : Point
  pub curve : ℕ

-- vertices, marks and pins, each list ascending (CGAL manual, `Arrangement_2`; pins: this project)
pub record Graph : Type 0 where
  pub points : List Point
  pub marks : List Mark
  pub pins : List Point

-- the mark of the curve c along the edge from p to q
abbrev pub mark : Point → Point → ℕ → Mark
mark p q c = record { low = p; high = q; curve = c }

-- marks go by their edge, the lesser end first, and then by the curve
unfoldable pub mark_cmp : Mark → Mark → Ordering
mark_cmp m n = ordering_then (point_cmp m.low n.low) (ordering_then (point_cmp m.high n.high) (nat_cmp m.curve n.curve))

-- the two numbers are one curve
abbrev pub same_curve : ℕ → ℕ → Bool
same_curve c d = is_eq (nat_cmp c d)

-- the two ends of a piece
unfoldable pub ends : Piece → List Point
ends k = k.from ∷ k.to ∷ []

-- the common point of two pieces whose lines are not parallel, if they have one
unfoldable pub common_points : Piece → Piece → List Point
common_points k m =
    let l : Line = line_of_segment k.segment in
    let n : Line = line_of_segment m.segment in
    let r : Point = crossing l n in
    cond (are_parallel l n) [] (cond (on k r && on m r) (r ∷ []) [])

-- the vertices: all ends of pieces, all pins, and all points on two pieces of different lines (CGAL manual; pins: this project)
unfoldable pub vertices : Present → List Point
vertices p = ascending point_cmp (flat_map ends p.pieces ++ (p.pins ++ flat_map (λ k. flat_map (common_points k) p.pieces) p.pieces))

-- one of the points stands strictly between p and q on the piece's line
unfoldable pub is_parted : List Point → Piece → Point → Point → Bool
is_parted vs k p q = list_any (λ r. (precedes p r && precedes r q) && along k r) vs

-- p < q are neighbours among the points on the piece
unfoldable pub are_neighbours : List Point → Piece → Point → Point → Bool
are_neighbours vs k p q = (precedes p q && (on k p && on k q)) && not (is_parted vs k p q)

-- the marks of one piece, over the points
unfoldable pub marks_on : List Point → Piece → List Mark
marks_on vs k = flat_map (λ p. flat_map (λ q. cond (are_neighbours vs k p q) (mark p q k.curve ∷ []) []) vs) vs

-- the edges over the points, each with its curves: pairs of neighbours on a piece (CGAL manual)
unfoldable pub marks : List Point → List Piece → List Mark
marks vs ks = ascending mark_cmp (flat_map (marks_on vs) ks)

-- what pieces make of points; these have all ends and crossings, and there may be more (this project: the graph between two steps of an edit)
abbrev pub graph_over : List Point → List Piece → List Point → Graph
graph_over vs ks pins = record { points = vs; marks = marks vs ks; pins = pins }

-- the graph of a present (CGAL manual)
unfoldable pub graph : Present → Graph
graph p = graph_over (vertices p) p.pieces p.pins

-- ---- an edge of a graph, and points on it
-- the mark's edge goes from p to q
abbrev pub is_at : Point → Point → Mark → Bool
is_at p q m = same_point m.low p && same_point m.high q

-- twice the area of the triangle, times the weights: positive where t is on the left of the way from p to q (Fogel, Halperin and Wein, orientation)
unfoldable pub det : Point → Point → Point → ℤ
det p q t =
    (p.y *ℤ q.w -ℤ q.y *ℤ p.w) *ℤ t.x
    +ℤ (q.x *ℤ p.w -ℤ p.x *ℤ q.w) *ℤ t.y
    +ℤ (p.x *ℤ q.y -ℤ q.x *ℤ p.y) *ℤ t.w

-- the three points are on one line
unfoldable pub collinear : Point → Point → Point → Bool
collinear p q t = int_eq (det p q t) (pos 0)

-- t lies strictly inside the segment from p to q
abbrev pub between : Point → Point → Point → Bool
between p q t = (precedes p t && precedes t q) && collinear p q t

-- t lies on the segment from p to q, its ends included
abbrev pub spans : Point → Point → Point → Bool
spans p q t = (not (precedes t p) && not (precedes q t)) && collinear p q t

-- t lies strictly inside the edge
unfoldable pub inside : Point → Mark → Bool
inside t m = between m.low m.high t

-- t lies on the edge, its ends included
unfoldable pub on_edge : Point → Mark → Bool
on_edge t m = spans m.low m.high t

-- the number is below 0
abbrev pub is_negative : ℤ → Bool
is_negative z = is_lt (int_cmp z (pos 0))

-- the number is above 0
abbrev pub is_positive : ℤ → Bool
is_positive z = is_lt (int_cmp (pos 0) z)

-- the edges cross, by the signs of four triangles: m goes from the left of n to its right, and n from the right of m to its left
unfoldable pub crosses : Mark → Mark → Bool
crosses m n = (is_positive (det n.low n.high m.low) && is_negative (det n.low n.high m.high)) && (is_negative (det m.low m.high n.low) && is_positive (det m.low m.high n.high))

-- ---- the edges of a graph, and the curves of one
-- a pair of vertices, the lesser first (CGAL manual, a pair of twin halfedges)
pub record Edge : Type 0 where
  pub low : Point
  pub high : Point

-- edges go by their lesser end first
unfoldable pub edge_cmp : Edge → Edge → Ordering
edge_cmp e f = ordering_then (point_cmp e.low f.low) (point_cmp e.high f.high)

-- the edge of a mark
abbrev pub edge_of : Mark → Edge
edge_of m = record { low = m.low; high = m.high }

-- the edges, ascending, each once
unfoldable pub edges : Graph → List Edge
edges g = ascending edge_cmp (map edge_of g.marks)

-- the curves of the edge from p to q, ascending (CGAL manual, originating curves)
unfoldable pub curves : Graph → Point → Point → List ℕ
curves g p q = ascending nat_cmp (map (λ m. m.curve) (filter (is_at p q) g.marks))

-- p and the first of the points, and each of these with the next one
unfoldable pub chain_from : ℕ → Point → List Point → List Mark
chain_from c p [] = []
chain_from c p (q ∷ ps) = mark p q c ∷ chain_from c q ps

-- each point with the next one, as the marks of a curve
unfoldable pub chain : ℕ → List Point → List Mark
chain c [] = []
chain c (p ∷ ps) = chain_from c p ps
