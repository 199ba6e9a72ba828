-- Edges of a plane graph that share two points, or one inside, or a beginning and a line, are one.
use Rattle.std.proofs.Common.{◌≡◌, true, refl, sym, ap, ◌∙◌, subst, inl, inr, ⊎_elim, Equal}
use Rattle.std.specs.Prelude.{pos, not, ◌&&◌}
use Rattle.std.specs.Ordering.{ordering_then}
use Rattle.integers.proofs.Classes.{then_equal}
use Rattle.integers.proofs.Compare.{equal_out, equal_in}
use Rattle.exact_plane.specs.Line.{Line, side_of, IsOn}
use Rattle.exact_plane.specs.MeetOf.{weight_of}
use Rattle.exact_plane.specs.Point.{Point}
use Rattle.exact_plane.specs.PointOrder.{point_cmp}
use Rattle.exact_plane.specs.PointOrderLaws.{and_true, point_cmp_total as point_total, same_point as point_cmp_exact}
use Rattle.exact_plane.specs.Slope.{rise_cmp}
use Rattle.exact_plane.specs.Span.{Span, IsSpan}
use Rattle.exact_plane.proofs.Meetings.{parallel_one}
use Rattle.exact_plane.proofs.PlaneLaws.{one_line}
use Rattle.exact_plane.proofs.SlopeLaws.{rise_is, rise_cmp_total}
use Rattle.std.proofs.lemmas.Cmp.{tied_itself}
use Rattle.plane_graphs.specs.Ascending.{Member}
use Rattle.plane_graphs.specs.Fit.{IsFit}
use Rattle.plane_graphs.specs.Graph.{Edge, graph, edges, vertices, det, collinear, spans}
use Rattle.plane_graphs.specs.Line.{IsProper, precedes}
use Rattle.plane_graphs.specs.Meaning.{IsEndOfEdge, IsStraightLineGraph}
use Rattle.plane_graphs.specs.Piece.{Present}
use Rattle.plane_graphs.proofs.Laws.{graph_is_plane}
use Rattle.plane_graphs.proofs.Lines.{zero_in, zero_out}
use Rattle.plane_graphs.proofs.Lists.{and_in, clash}
use Rattle.plane_graphs.proofs.Marks.{Le, le_in, le_out, le_lt}
use Rattle.plane_graphs.proofs.Meaning.{plane_is_drawn}
use Rattle.plane_graphs.proofs.Order.{Lt, Tri, tri, lt_in, lt_out, lt_never}
use Rattle.plane_graphs.proofs.Order.Tri.{less, same, more}
use Rattle.slab_laws.specs.Skeleton.{side}
use Rattle.slab_laws.specs.SpansDrawn.{edge_of}
use Rattle.edge_predicates.proofs.Sides.{side_same}

-- ---- a point on an edge
pub record IsUpon (e : Edge) (t : Point) : Type 0 where
  pub low : Le e.low t
  pub high : Le t e.high
  pub line : collinear e.low e.high t ≡ true

pub upon_out : (e : Edge) (t : Point) → spans e.low e.high t ≡ true → IsUpon e t
upon_out e t h =
    let a = and_true (not (precedes t e.low) && not (precedes e.high t)) (collinear e.low e.high t) h in
    let b = and_true (not (precedes t e.low)) (not (precedes e.high t)) a.0 in
    record { low = le_out e.low t b.0; high = le_out t e.high b.1; line = a.1 }

pub upon_in : (e : Edge) (t : Point) → IsUpon e t → spans e.low e.high t ≡ true
upon_in e t h = and_in (and_in (le_in h.low) (le_in h.high)) h.line

-- ---- on the line of a span
det_is : (s : Span) (t : Point) → side (edge_of s) t ≡ det s.lower s.upper t
unfolding side det
det_is s t = refl

pub on_line : (s : Span) (t : Point) → IsSpan s → collinear s.lower s.upper t ≡ true → IsOn s.line t
unfolding collinear
on_line s t is h =
    let z : side (edge_of s) t ≡ pos 0 = det_is s t ∙ zero_out (det s.lower s.upper t) h in
    equal_out (side_of s.line t) (pos 0) (sym (side_same s is t) ∙ equal_in (side (edge_of s) t) (pos 0) z)

pub line_on : (s : Span) (t : Point) → IsSpan s → IsOn s.line t → collinear s.lower s.upper t ≡ true
unfolding collinear
line_on s t is h =
    zero_in (det s.lower s.upper t) (sym (det_is s t) ∙ equal_out (side (edge_of s) t) (pos 0) (side_same s is t ∙ equal_in (side_of s.line t) (pos 0) h))

-- ---- edges of the graph of a present
module _ (p : Present) (fit : IsFit p) where
  pub drawn_straight : IsStraightLineGraph (vertices p) (edges (graph p))
  unfolding graph
  drawn_straight = ((plane_is_drawn (graph p)).0 (graph_is_plane p fit)).1

  pub long : (f : Edge) → Member f (edges (graph p)) → Lt f.low f.high
  long f F = lt_out f.low f.high (drawn_straight.forward f F)

  -- with two points in common
  pub one_by_points : (e f : Edge) (a b : Point) → Member e (edges (graph p)) → Member f (edges (graph p)) → IsProper a → IsProper b → Lt a b → IsUpon e a → IsUpon e b → IsUpon f a → IsUpon f b → e ≡ f
  one_by_points e f a b E F A B l ea eb fa fb =
      ⊎_elim (λ q. q) (λ x. ⊎_elim (λ q. q) (λ y. ends x.0 x.1 y.0 y.1) (drawn_straight.share_ends e f b E F B (upon_in e b eb) (upon_in f b fb)))
      (drawn_straight.share_ends e f a E F A (upon_in e a ea) (upon_in f a fa))
    where
      low_of : (d : Edge) → IsUpon d b → IsEndOfEdge a d → a ≡ d.low
      low_of d u (inl q) = q
      low_of d u (inr q) = absurd (u.high.never (subst (λ z. Lt z b) q l))

      high_of : (d : Edge) → IsUpon d a → IsEndOfEdge b d → b ≡ d.high
      high_of d u (inl q) = absurd (u.low.never (subst (λ z. Lt a z) q l))
      high_of d u (inr q) = q

      ends : IsEndOfEdge a e → IsEndOfEdge a f → IsEndOfEdge b e → IsEndOfEdge b f → e ≡ f
      ends ae af be bf =
          let low = sym (low_of e eb ae) ∙ low_of f fb af in
          let high = sym (high_of e ea be) ∙ high_of f fa bf in
          λ i. record { low = low i; high = high i }

  -- with a point in common that is inside the first
  pub one_by_inside : (e f : Edge) (t : Point) → Member e (edges (graph p)) → Member f (edges (graph p)) → IsProper t → Lt e.low t → Lt t e.high → collinear e.low e.high t ≡ true → IsUpon f t → e ≡ f
  one_by_inside e f t E F T a b c u =
      ⊎_elim (λ q. q) (λ x. absurd (no_end x.0))
      (drawn_straight.share_ends e f t E F T (upon_in e t (record { low = le_lt a; high = le_lt b; line = c })) (upon_in f t u))
    where
      no_end : IsEndOfEdge t e → ⊥
      no_end (inl q) = lt_never (subst (λ z. Lt z t) (sym q) a)
      no_end (inr q) = lt_never (subst (λ z. Lt t z) (sym q) b)

  -- from one point along one line
  pub one_by_line : (s t : Span) → IsSpan s → IsSpan t → Member (edge_of s) (edges (graph p)) → Member (edge_of t) (edges (graph p)) → s.lower ≡ t.lower → s.line ≡ t.line → edge_of s ≡ edge_of t
  one_by_line s t S T ms mt l q = by (tri s.upper t.upper)
    where
      shorter : (a b : Span) → IsSpan a → IsSpan b → Member (edge_of a) (edges (graph p)) → Member (edge_of b) (edges (graph p)) → a.lower ≡ b.lower → a.line ≡ b.line → Lt a.upper b.upper → ⊥
      shorter a b A B ma mb e n k =
          let on : IsOn b.line a.upper = subst (λ (m : Line). IsOn m a.upper) n A.way.upper_on in
          let after : Lt b.lower a.upper = subst (λ z. Lt z a.upper) e (record { is = A.way.ascending }) in
          clash (and_in (and_in (lt_in after) (lt_in k)) (line_on b a.upper B on)) (drawn_straight.none_inside (edge_of b) a.upper mb (drawn_straight.ends_in (edge_of a) ma).1)

      by : Tri s.upper t.upper → edge_of s ≡ edge_of t
      by (less k) = absurd (shorter s t S T ms mt l q k)
      by (same k) = λ i. record { low = l i; high = k i }
      by (more k) = absurd (shorter t s T S mt ms (sym l) (sym q) k)

-- ---- parts of an edge
-- an edge from the lower end of a part of it has the part's line
pub part_line : (s t : Span) → IsSpan s → IsSpan t → s.lower ≡ t.lower → IsUpon (edge_of s) t.upper → s.line ≡ t.line
part_line s t S T l u = one_line s.line t.line t.lower t.upper S.line T.line T.lower T.upper T.way.ascending (subst (λ z. IsOn s.line z) l S.way.lower_on) T.way.lower_on (on_line s t.upper S u.line) T.way.upper_on

-- and begins as it does
pub begins_level : (s t : Span) → s.lower ≡ t.lower → s.line ≡ t.line → ordering_then (point_cmp s.lower t.lower) (rise_cmp s.line t.line) ≡ Equal
begins_level s t l q =
    (λ i. ordering_then (point_cmp (l i) t.lower) (rise_cmp (q i) t.line))
    ∙ ap (λ o. ordering_then o (rise_cmp t.line t.line)) (tied_itself point_total t.lower)
    ∙ tied_itself rise_cmp_total t.line

-- what begins as it does has its lower end and its line
pub level_out : (s t : Span) → IsSpan s → IsSpan t → ordering_then (point_cmp s.lower t.lower) (rise_cmp s.line t.line) ≡ Equal → (s.lower ≡ t.lower) × (s.line ≡ t.line)
level_out s t S T h =
    let a = then_equal (point_cmp s.lower t.lower) (rise_cmp s.line t.line) h in
    let l : s.lower ≡ t.lower = point_cmp_exact s.lower t.lower a.0 in
    let n : weight_of s.line t.line ≡ pos 0 = sym (equal_out (pos 0) (weight_of s.line t.line) (sym (rise_is s.line t.line S.line.runs T.line.runs) ∙ a.1)) in
    (l, parallel_one s.line t.line t.lower S.line T.line T.lower.range.positive n (subst (λ z. IsOn s.line z) l S.way.lower_on) T.way.lower_on)
