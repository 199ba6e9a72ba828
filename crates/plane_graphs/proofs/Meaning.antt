-- The lists of the model hold what the field says.
use Rattle.std.proofs.Common.{◌≡◌, List, [], ◌∷◌, map, Bool, true, false, refl, sym, ap, ◌∙◌, subst, inl, inr, ◌⊎◌, ⊎_elim, Ordering, Less, Equal, nat_cmp, is_eq}
use Rattle.std.specs.Prelude.{◌*ℤ◌}
use Rattle.std.specs.Cmp.{IsTotalOrder}
use Rattle.std.specs.List.{AllByRecursion, IsDistinct}
use Rattle.std.specs.Ordering.{eq_by_cmp}
use Rattle.std.proofs.lemmas.Cmp.{then_total, on_total, nat_cmp_total, int_cmp_total, tied_itself}
use Rattle.exact_plane.specs.Point.{Point}
use Rattle.exact_plane.specs.PointOrder.{point_cmp}
use Rattle.exact_plane.specs.PointOrderLaws.{point_cmp_total, same_point as point_cmp_exact}
use Rattle.integers.proofs.Classes.{then_equal}
use Rattle.integers.proofs.Tests.{not_true}
use Rattle.plane_graphs.specs.Ascending.{Member, IsAscending}
use Rattle.plane_graphs.specs.Line.{are_parallel, precedes}
use Rattle.exact_plane.specs.Line.{Line}
use Rattle.exact_plane.specs.Segment.{line_of_segment}
use Rattle.plane_graphs.specs.Piece.{Present, on}
use Rattle.plane_graphs.specs.Graph.{Graph, Mark, Edge, mark, edge_cmp, edge_of, graph, vertices, edges, curves, between, spans, inside, on_edge}
use Rattle.plane_graphs.specs.Fit.{IsFit}
use Rattle.plane_graphs.specs.Plane.{IsPlane, IsEnd}
use Rattle.plane_graphs.specs.Meaning.{IsMeeting, IsVertexOf, IsEdgeOf, IsEndOfEdge, IsListed, IsStraightLineGraph}
use Rattle.plane_graphs.specs.GraphLaws.{StandOnce, VerticesAre, EdgesAre, PlaneIsDrawn}
use Rattle.plane_graphs.proofs.Ascending.{IsAscending-ascending}
use Rattle.plane_graphs.proofs.Lists.{of_ascending, in_ascending, in_map, of_map, clash}
use Rattle.plane_graphs.proofs.Order.{lt_out, lt_in}
use Rattle.plane_graphs.proofs.Marks.{on_out, on_in, on_between, le_lt, mark_out, mark_in}
use Rattle.plane_graphs.proofs.Vertices.{IsVertex, proper_piece, vertex_in, vertex_out, vertices_ascend, vertices_closed}
use Rattle.plane_graphs.proofs.Vertices.IsVertex.{begins, finishes, pinned, crossed}
use Rattle.plane_graphs.proofs.Lines.{geometry, crossing_is, same_numbers}

-- ---- what ascends stands once
module _ {X : Type 0} (cmp : X → X → Ordering) where
  apart_all : (x : X) (ys : List X) → AllByRecursion (λ y. cmp x y ≡ Less) ys → AllByRecursion (λ y. eq_by_cmp cmp x y ≡ false) ys
  apart_all x [] a = tt
  apart_all x (y ∷ ys) a = (ap is_eq a.0, apart_all x ys a.1)

  pub IsDistinct-from_IsAscending : (xs : List X) → IsAscending cmp xs → IsDistinct (eq_by_cmp cmp) xs
  unfolding IsDistinct
  IsDistinct-from_IsAscending [] a = tt
  IsDistinct-from_IsAscending (x ∷ xs) a = (apart_all x xs a.0, IsDistinct-from_IsAscending xs a.1)

-- ---- edges
pub edge_cmp_total : IsTotalOrder edge_cmp
unfolding edge_cmp
edge_cmp_total = then_total (on_total (λ e. e.low) point_cmp_total) (on_total (λ e. e.high) point_cmp_total)

pub edge_cmp_exact : (e f : Edge) → edge_cmp e f ≡ Equal → e ≡ f
unfolding edge_cmp
edge_cmp_exact e f h =
    let a = then_equal (point_cmp e.low f.low) (point_cmp e.high f.high) h in
    let low = point_cmp_exact e.low f.low a.0 in
    let high = point_cmp_exact e.high f.high a.1 in
    λ i. record { low = low i; high = high i }

pub edges_ascend : (g : Graph) → IsAscending edge_cmp (edges g)
unfolding edges
edges_ascend g = IsAscending-ascending edge_cmp edge_cmp_total _

pub curves_ascend : (g : Graph) (a b : Point) → IsAscending nat_cmp (curves g a b)
unfolding curves
curves_ascend g a b = IsAscending-ascending nat_cmp nat_cmp_total _

-- an edge of the graph has a mark
pub edge_out : (g : Graph) (e : Edge) → Member e (edges g) → (m : Mark) × Member m g.marks × (e ≡ edge_of m)
unfolding edges
edge_out g e h = of_map edge_of e g.marks (of_ascending edge_cmp edge_cmp_total edge_cmp_exact e (map edge_of g.marks) h)

pub edge_in : (g : Graph) (m : Mark) → Member m g.marks → Member (edge_of m) (edges g)
unfolding edges
edge_in g m h = in_ascending edge_cmp edge_cmp_total edge_cmp_exact (edge_of m) (map edge_of g.marks) (in_map edge_of m g.marks h)

pub stand_once : StandOnce
stand_once = record {
  vertices_ascend = vertices_ascend;
  vertices_once = λ p. IsDistinct-from_IsAscending point_cmp (vertices p) (vertices_ascend p);
  edges_ascend = edges_ascend;
  edges_once = λ g. IsDistinct-from_IsAscending edge_cmp (edges g) (edges_ascend g);
  curves_ascend = curves_ascend;
  curves_once = λ g a b. IsDistinct-from_IsAscending nat_cmp (curves g a b) (curves_ascend g a b);
}

-- ---- vertices
pub parallel_itself : (l : Line) → are_parallel l l ≡ true
parallel_itself l = ap is_eq (tied_itself int_cmp_total (l.a *ℤ l.b))

module _ (p : Present) (x : Point) (fit : IsFit p) where
  vertex_is : IsVertex p x → IsVertexOf p x
  vertex_is (begins k h e) = inl (record { piece = k; piece_in = h; end = inl e })
  vertex_is (finishes k h e) = inl (record { piece = k; piece_in = h; end = inr e })
  vertex_is (pinned h) = inr (inl h)
  vertex_is (crossed c) =
      inr (inr (record {
        one = c.one;
        other = c.other;
        one_in = c.one_here;
        other_in = c.other_here;
        lines_differ = λ e. clash (ap (are_parallel (line_of_segment c.one.segment)) (sym e) ∙ parallel_itself (line_of_segment c.one.segment)) c.apart;
        proper = (vertices_closed geometry p fit).proper x (vertex_in p x (crossed c));
        on_one = on_in c.one x c.on_one;
        on_other = on_in c.other x c.on_other;
      }))

  met : (m : IsMeeting p x) → (b : Bool) → are_parallel (line_of_segment m.one.segment) (line_of_segment m.other.segment) ≡ b → IsVertex p x
  met m true e =
      let k = proper_piece m.one (fit.piece m.one m.one_in) in
      let n = proper_piece m.other (fit.piece m.other m.other_in) in
      absurd (m.lines_differ (same_numbers m.one m.other k n e x m.proper (on_out m.one x m.on_one).line (on_out m.other x m.on_other).line))
  met m false e =
      let k = proper_piece m.one (fit.piece m.one m.one_in) in
      let n = proper_piece m.other (fit.piece m.other m.other_in) in
      let o = on_out m.one x m.on_one in
      let u = on_out m.other x m.on_other in
      crossed (record { one = m.one; other = m.other; one_here = m.one_in; other_here = m.other_in; apart = e; on_one = o; on_other = u; is = crossing_is m.one m.other k n e x m.proper o.line u.line })

  vertex_from : IsVertexOf p x → IsVertex p x
  vertex_from (inl e) = ⊎_elim (λ i. begins e.piece e.piece_in i) (λ i. finishes e.piece e.piece_in i) e.end
  vertex_from (inr (inl h)) = pinned h
  vertex_from (inr (inr m)) = met m (are_parallel (line_of_segment m.one.segment) (line_of_segment m.other.segment)) refl

pub vertices_are : VerticesAre
vertices_are p x fit = ((λ m. vertex_is p x fit (vertex_out p x m)), (λ v. vertex_in p x (vertex_from p x fit v)))

-- ---- edges of a present
module _ (p : Present) where
  edge_is : (e : Edge) → Member e (edges (graph p)) → IsEdgeOf p e.low e.high
  unfolding graph
  edge_is e h =
      let w = edge_out (graph p) e h in
      let m = mark_out (vertices p) p.pieces w.0 w.1 in
      subst (λ (f : Edge). IsEdgeOf p f.low f.high) (sym w.2) (record {
        piece = m.piece;
        piece_in = m.here;
        first = m.low_in;
        last = m.high_in;
        forward = lt_in m.next.lt;
        on_first = on_in m.piece w.0.low m.next.at_p;
        on_last = on_in m.piece w.0.high m.next.at_q;
        none_between = λ r n a b. not_true (on m.piece r) (λ o. m.next.none r n (lt_out w.0.low r a) (lt_out r w.0.high b) (on_out m.piece r o).line);
      })

  edge_from : (e : Edge) → IsEdgeOf p e.low e.high → Member e (edges (graph p))
  unfolding graph
  edge_from e h =
      let first = on_out h.piece e.low h.on_first in
      let last = on_out h.piece e.high h.on_last in
      edge_in (graph p) (mark e.low e.high h.piece.curve)
      (mark_in (vertices p) p.pieces (mark e.low e.high h.piece.curve) (record {
        piece = h.piece;
        here = h.piece_in;
        curve = refl;
        low_in = h.first;
        high_in = h.last;
        next = record {
          lt = lt_out e.low e.high h.forward;
          at_p = first;
          at_q = last;
          none = λ r n a b o. clash (on_in h.piece r (on_between h.piece e.low r e.high first last (le_lt a) (le_lt b) o)) (h.none_between r n (lt_in a) (lt_in b));
        };
      }))

pub edges_are : EdgesAre
edges_are p e = (edge_is p e, edge_from p e)

-- ---- plane graphs
module _ (g : Graph) where
  drawn : IsPlane g → IsListed g × IsStraightLineGraph g.points (edges g)
  unfolding inside on_edge
  drawn pl = (
    record { points_ascend = pl.points_ascend; marks_ascend = pl.marks_ascend; proper = pl.proper },
    record {
      points_once = IsDistinct-from_IsAscending point_cmp g.points pl.points_ascend;
      edges_once = IsDistinct-from_IsAscending edge_cmp (edges g) (edges_ascend g);
      forward = λ e h. let w = edge_out g e h in subst (λ (f : Edge). precedes f.low f.high ≡ true) (sym w.2) (pl.forward w.0 w.1);
      ends_in = λ e h. let w = edge_out g e h in subst (λ (f : Edge). Member f.low g.points × Member f.high g.points) (sym w.2) (pl.low_in w.0 w.1, pl.high_in w.0 w.1);
      none_inside = λ e x h n. let w = edge_out g e h in subst (λ (f : Edge). between f.low f.high x ≡ false) (sym w.2) (pl.clear w.0 w.1 x n);
      share_ends = λ e f t h k pt a b.
          let w = edge_out g e h in
          let v = edge_out g f k in
          share t w.0 v.0 e f w.2 v.2 (pl.apart w.0 v.0 w.1 v.1 t pt (subst (λ (d : Edge). spans d.low d.high t ≡ true) w.2 a) (subst (λ (d : Edge). spans d.low d.high t ≡ true) v.2 b));
    },
  )
    where
      share : (t : Point) (m n : Mark) (e f : Edge) → e ≡ edge_of m → f ≡ edge_of n → ((m.low ≡ n.low) × (m.high ≡ n.high)) ⊎ (IsEnd t m × IsEnd t n) → (e ≡ f) ⊎ (IsEndOfEdge t e × IsEndOfEdge t f)
      share t m n e f i j (inl s) = inl (i ∙ (λ k. record { low = s.0 k; high = s.1 k }) ∙ sym j)
      share t m n e f i j (inr s) = inr (subst (IsEndOfEdge t) (sym i) s.0, subst (IsEndOfEdge t) (sym j) s.1)

  from_drawn : IsListed g × IsStraightLineGraph g.points (edges g) → IsPlane g
  unfolding inside on_edge
  from_drawn (l, s) = record {
    points_ascend = l.points_ascend;
    marks_ascend = l.marks_ascend;
    proper = l.proper;
    low_in = λ m h. (s.ends_in (edge_of m) (edge_in g m h)).0;
    high_in = λ m h. (s.ends_in (edge_of m) (edge_in g m h)).1;
    forward = λ m h. s.forward (edge_of m) (edge_in g m h);
    clear = λ m h x n. s.none_inside (edge_of m) x (edge_in g m h) n;
    apart = λ m n h k t pt a b. ⊎_elim (λ e. inl (ap (λ (f : Edge). f.low) e, ap (λ (f : Edge). f.high) e)) (λ e. inr e) (s.share_ends (edge_of m) (edge_of n) t (edge_in g m h) (edge_in g n k) pt a b);
  }

pub plane_is_drawn : PlaneIsDrawn
plane_is_drawn g = (drawn g, from_drawn g)
