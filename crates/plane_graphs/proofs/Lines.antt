-- Lines through two points, and their crossings.
use Rattle.std.proofs.Common.{◌≡◌, [], ◌∷◌, ℕ, zero, suc, ◌+◌, ◌<◌, ℤ, pos, negsuc, ◌-ℤ◌, ◌*ℤ◌, ◌<ℤ◌, neg_ℤ, unsigned_abs, true, false, refl, ap, sym, ◌∙◌, subst, arith, inl, inr, ◌⊎◌, ⊎_elim, Ordering, Less, Equal, Greater}
use Rattle.std.proofs.lemmas.Int.{ints}
use Rattle.std.specs.Ordering.{is_eq, int_cmp, int_eq, ordering_then}
use Rattle.integers.specs.Divisor.{gcd, gcd_within}
use Rattle.integers.specs.Lowest.{common_divisor, IsLowest}
use Rattle.integers.proofs.Signs.{cancel_pos, cancel_zero}
use Rattle.integers.proofs.Compare.{less_out, equal_out, equal_in}
use Rattle.integers.proofs.Bezout.{lowest_same}
use Rattle.integers.proofs.Gcd.{common_divisor-first, common_divisor-second, common_divisor-third, common_divisor-positive}
use Rattle.integers.proofs.Reduce.{divided, divided_pos, reduced_lowest}
use Rattle.integers.proofs.Reify.{ring, sides}
use Rattle.integers.proofs.Decisions.{eq_out}
use Rattle.exact_plane.specs.Point.{Point, IsPoint, reduced}
use Rattle.exact_plane.specs.PointOrder.{by_x, by_y}
use Rattle.exact_plane.proofs.Places.{ratio_cmp-is}
use Rattle.plane_graphs.specs.Line.{IsWhole, IsProper, IsProperLine, homogeneous_point, crossing, are_parallel}
use Rattle.exact_plane.specs.Line.{Line, IsLine, side_of, reduced_line}
use Rattle.exact_plane.proofs.Meetings.{runs as runs_on}
use Rattle.exact_plane.specs.Segment.{Segment, line_of_segment}
use Rattle.plane_graphs.specs.Piece.{Piece, along}
use Rattle.plane_graphs.specs.Graph.{det, collinear}
use Rattle.plane_graphs.proofs.Order.{Lt, lt_never}
use Rattle.plane_graphs.proofs.Lists.{both_ways, clash}
use Rattle.plane_graphs.proofs.Closed.{IsStraight, SameLine}
use Rattle.plane_graphs.proofs.Vertices.{Geometry, IsProperPiece}
use Rattle.exact_plane.specs.Plane.{side, RunsForward, Before}
use Rattle.exact_plane.proofs.Geometry.{cross_only}
use Rattle.exact_plane.proofs.Crossings.{parallel_share, same_over, same_line}
use Rattle.plane_graphs.proofs.Crossings.{zero_too, spans_w, spans_x, spans_y, turned, minus_times, scaled, first_end, last_end}

gcd_one : (n : ℕ) → gcd n 1 ≡ 1
unfolding gcd gcd_within
gcd_one n = refl

-- a point within its bounds is proper
pub point_is_proper : (p : Point) → IsPoint p → IsProper p
point_is_proper p h = record { positive = h.range.positive; lowest = h.lowest }

-- and so is a whole one
pub whole_is_proper : (p : Point) → IsWhole p → IsProper p
whole_is_proper p h = record {
  positive = subst (λ z. pos 0 <ℤ z) (sym h) (omega (arith, ints));
  lowest = subst (λ z. IsLowest p.x p.y z) (sym h) (gcd_one (gcd (unsigned_abs p.x) (unsigned_abs p.y)));
}

-- ---- tests of zero

pub zero_out : (z : ℤ) → int_eq z (pos 0) ≡ true → z ≡ pos 0
zero_out z h = eq_out z (pos 0) h

pub zero_in : (z : ℤ) → z ≡ pos 0 → int_eq z (pos 0) ≡ true
zero_in z e = ap is_eq (equal_in z (pos 0) e)

-- ---- the line through two points runs
abbrev pub span_a : Point → Point → ℤ
span_a p q = p.y *ℤ q.w -ℤ q.y *ℤ p.w

abbrev pub span_b : Point → Point → ℤ
span_b p q = q.x *ℤ p.w -ℤ p.x *ℤ q.w

abbrev pub span_c : Point → Point → ℤ
span_c p q = p.x *ℤ q.y -ℤ q.x *ℤ p.y

by_order : (s t u : Ordering) → ordering_then s (ordering_then t u) ≡ Less → (s ≡ Less) ⊎ ((s ≡ Equal) × ((t ≡ Less) ⊎ (t ≡ Equal)))
by_order Less t u e = inl refl
by_order Equal Less u e = inr (refl, inl refl)
by_order Equal Equal u e = inr (refl, inr refl)
by_order Equal Greater u e = cc
by_order Greater t u e = cc

-- proper points go by x and then by y, by plain cross products
pub by_x-is : (p q : Point) → IsProper p → IsProper q → by_x p q ≡ int_cmp (p.x *ℤ q.w) (q.x *ℤ p.w)
by_x-is p q h k = sym (ratio_cmp-is p.x p.w q.x q.w h.positive k.positive)

pub by_y-is : (p q : Point) → IsProper p → IsProper q → by_y p q ≡ int_cmp (p.y *ℤ q.w) (q.y *ℤ p.w)
by_y-is p q h k = sym (ratio_cmp-is p.y p.w q.y q.w h.positive k.positive)

path_of : (p q : Point) → p.x ≡ q.x → p.y ≡ q.y → p.w ≡ q.w → p ≡ q
path_of p q x y w = λ i. record { x = x i; y = y i; w = w i }

pub span_runs : (p q : Point) → IsProper p → IsProper q → Lt p q → RunsForward (span_a p q) (span_b p q)
span_runs p q pp pq h =
    let d = by_order (by_x p q) (by_y p q) (int_cmp p.w q.w) h.is in
    let fx = by_x-is p q pp pq in
    let fy = by_y-is p q pp pq in
    ⊎_elim
    (λ l. inl (let g : (p.x *ℤ q.w) <ℤ (q.x *ℤ p.w) = less_out (p.x *ℤ q.w) (q.x *ℤ p.w) (sym fx ∙ l) in omega (arith, ints)))
    (λ e.
    let ex : p.x *ℤ q.w ≡ q.x *ℤ p.w = equal_out (p.x *ℤ q.w) (q.x *ℤ p.w) (sym fx ∙ e.0) in
    ⊎_elim
    (λ l. inr ((omega (arith, ints)), (let g : (p.y *ℤ q.w) <ℤ (q.y *ℤ p.w) = less_out (p.y *ℤ q.w) (q.y *ℤ p.w) (sym fy ∙ l) in omega (arith, ints))))
    (λ l.
    let ey : p.y *ℤ q.w ≡ q.y *ℤ p.w = equal_out (p.y *ℤ q.w) (q.y *ℤ p.w) (sym fy ∙ l) in
    let s = lowest_same p.x p.y p.w q.x q.y q.w pp.positive pq.positive pp.lowest pq.lowest ex ey in
    absurd (lt_never (subst (λ z. Lt p z) (sym (path_of p q s.0 s.1 s.2)) h)))
    e.1)
    d

-- ---- the line of a segment runs
runs_divided : (A B a b g : ℤ) → pos 0 <ℤ g → a *ℤ g ≡ A → b *ℤ g ≡ B → RunsForward A B → RunsForward a b
runs_divided A B a b g h ea eb (inl k) = inl (cancel_pos h (subst (λ z. pos 0 <ℤ z) (sym eb) k))
runs_divided A B a b g h ea eb (inr k) =
    let n : A <ℤ pos 0 = k.1 in
    let m : pos 0 <ℤ neg_ℤ A = omega (arith, ints) in
    let p : pos 0 <ℤ neg_ℤ a = cancel_pos {x = neg_ℤ a} h (subst (λ z. pos 0 <ℤ z) (sym (minus_times a g ∙ ap neg_ℤ ea)) m) in
    inr (cancel_zero h (eb ∙ k.0), omega (arith, ints))

some_size : (A B C : ℤ) → RunsForward A B → 0 < unsigned_abs A + unsigned_abs B + unsigned_abs C
some_size A B C (inl h) = omega (arith, ints)
some_size A B C (inr h) = let k : A <ℤ pos 0 = h.1 in omega (arith, ints)

line_positive : (A B C : ℤ) → RunsForward A B → 0 < common_divisor A B C
line_positive A B C h = common_divisor-positive A B C (some_size A B C h)

above_zero : (n : ℕ) → 0 < n → pos 0 <ℤ pos n
above_zero n h = omega (arith, ints)

-- what the division of a line's numbers leaves
record IsDivided (A B C : ℤ) (l : Line) : Type 0 where
  factor : ℤ
  factor_pos : pos 0 <ℤ factor
  a_is : l.a *ℤ factor ≡ A
  b_is : l.b *ℤ factor ≡ B
  c_is : l.c *ℤ factor ≡ C

line_divided : (A B C : ℤ) → RunsForward A B → IsDivided A B C (reduced_line A B C)
line_divided A B C h = record {
  factor = pos (common_divisor A B C);
  factor_pos = above_zero (common_divisor A B C) (line_positive A B C h);
  a_is = divided A (common_divisor A B C) (common_divisor-first A B C);
  b_is = divided B (common_divisor A B C) (common_divisor-second A B C);
  c_is = divided C (common_divisor A B C) (common_divisor-third A B C);
}

lowest_line : (A B C : ℤ) → RunsForward A B → IsLowest (reduced_line A B C).a (reduced_line A B C).b (reduced_line A B C).c
lowest_line A B C h = reduced_lowest A B C (line_positive A B C h)

line_runs : (A B C : ℤ) (l : Line) → IsDivided A B C l → RunsForward A B → RunsForward l.a l.b
line_runs A B C l d h = runs_divided A B l.a l.b d.factor d.factor_pos d.a_is d.b_is h

-- a segment with whole ends, the lesser first
module _ (s : Segment) (lower : IsWhole s.lower) (upper : IsWhole s.upper) (ahead : Lt s.lower s.upper) where
  times_one : (a b : ℤ) → a -ℤ b ≡ a *ℤ pos 1 -ℤ b *ℤ pos 1
  times_one a b = ring (a ∷ b ∷ []) (search sides depth 40 fits 20000) tt

  a_is : s.lower.y -ℤ s.upper.y ≡ span_a s.lower s.upper
  a_is = times_one s.lower.y s.upper.y ∙ (λ i. s.lower.y *ℤ sym upper i -ℤ s.upper.y *ℤ sym lower i)

  b_is : s.upper.x -ℤ s.lower.x ≡ span_b s.lower s.upper
  b_is = times_one s.upper.x s.lower.x ∙ (λ i. s.upper.x *ℤ sym lower i -ℤ s.lower.x *ℤ sym upper i)

  runs : RunsForward (s.lower.y -ℤ s.upper.y) (s.upper.x -ℤ s.lower.x)
  runs = subst (λ z. RunsForward z (s.upper.x -ℤ s.lower.x)) (sym a_is) (subst (λ z. RunsForward (span_a s.lower s.upper) z) (sym b_is) (span_runs s.lower s.upper (whole_is_proper s.lower lower) (whole_is_proper s.upper upper) ahead))

  divides : IsDivided (s.lower.y -ℤ s.upper.y) (s.upper.x -ℤ s.lower.x) (span_c s.lower s.upper) (line_of_segment s)
  divides = line_divided (s.lower.y -ℤ s.upper.y) (s.upper.x -ℤ s.lower.x) (span_c s.lower s.upper) runs

  pub line_of_segment-runs : RunsForward (line_of_segment s).a (line_of_segment s).b
  line_of_segment-runs = line_runs (s.lower.y -ℤ s.upper.y) (s.upper.x -ℤ s.lower.x) (span_c s.lower s.upper) (line_of_segment s) divides runs

  pub line_of_segment-lowest : IsLowest (line_of_segment s).a (line_of_segment s).b (line_of_segment s).c
  line_of_segment-lowest = lowest_line (s.lower.y -ℤ s.upper.y) (s.upper.x -ℤ s.lower.x) (span_c s.lower s.upper) runs

  -- both ends are on the line
  on_line : (t : Point) → side (span_a s.lower s.upper) (span_b s.lower s.upper) (span_c s.lower s.upper) t.x t.y t.w ≡ pos 0 → side_of (line_of_segment s) t ≡ pos 0
  on_line t e =
      let d = divides in
      scaled (line_of_segment s).a (line_of_segment s).b (line_of_segment s).c (span_a s.lower s.upper) (span_b s.lower s.upper) (span_c s.lower s.upper) d.factor t.x t.y t.w d.factor_pos (d.a_is ∙ a_is) (d.b_is ∙ b_is) d.c_is e

  pub lower_on : side_of (line_of_segment s) s.lower ≡ pos 0
  lower_on = on_line s.lower (first_end s.lower.x s.lower.y s.lower.w s.upper.x s.upper.y s.upper.w)

  pub upper_on : side_of (line_of_segment s) s.upper ≡ pos 0
  upper_on = on_line s.upper (last_end s.lower.x s.lower.y s.lower.w s.upper.x s.upper.y s.upper.w)

pub segment_runs : (k : Piece) → IsProperPiece k → RunsForward (line_of_segment k.segment).a (line_of_segment k.segment).b
segment_runs k h = line_of_segment-runs k.segment h.lower h.upper h.ahead

pub segment_line : (k : Piece) → IsProperPiece k → IsProperLine (line_of_segment k.segment)
segment_line k h = record { lowest = line_of_segment-lowest k.segment h.lower h.upper h.ahead; runs = segment_runs k h }

pub line_is_proper : (l : Line) → IsLine l → IsProperLine l
line_is_proper l k = record { lowest = k.lowest; runs = runs_on l.a l.b k.runs }

pub along_out : (k : Piece) (t : Point) → along k t ≡ true → side_of (line_of_segment k.segment) t ≡ pos 0
unfolding along
along_out k t h = zero_out (side_of (line_of_segment k.segment) t) h

pub along_in : (k : Piece) (t : Point) → side_of (line_of_segment k.segment) t ≡ pos 0 → along k t ≡ true
unfolding along
along_in k t e = zero_in (side_of (line_of_segment k.segment) t) e

collinear_out : (p q t : Point) → collinear p q t ≡ true → side (span_a p q) (span_b p q) (span_c p q) t.x t.y t.w ≡ pos 0
unfolding collinear det
collinear_out p q t h = zero_out (side (span_a p q) (span_b p q) (span_c p q) t.x t.y t.w) h

pub collinear_in : (p q t : Point) → side (span_a p q) (span_b p q) (span_c p q) t.x t.y t.w ≡ pos 0 → collinear p q t ≡ true
unfolding collinear det
collinear_in p q t e = zero_in (side (span_a p q) (span_b p q) (span_c p q) t.x t.y t.w) e

-- two points of a piece's line tell it
pub straight : (k : Piece) → IsProperPiece k → IsStraight k
straight k h = record {
  span = λ p q t pp pq pt l ep eq.
      let L : Line = line_of_segment k.segment in
      let s1 = along_out k p ep in
      let s2 = along_out k q eq in
      let ew = spans_w L.a L.b L.c p.x p.y p.w q.x q.y q.w s1 s2 in
      let ex = spans_x L.a L.b L.c p.x p.y p.w q.x q.y q.w s1 s2 in
      let ey = spans_y L.a L.b L.c p.x p.y p.w q.x q.y q.w s1 s2 in
      both_ways (collinear p q t) (along k t)
      (λ e. along_in k t (zero_too (span_a p q) (span_b p q) (span_c p q) L.a L.b L.c t.x t.y t.w (turned L.a (span_b p q) (span_a p q) L.b ew) (turned L.b (span_c p q) (span_b p q) L.c ex) (turned L.c (span_a p q) (span_c p q) L.a ey) (collinear_out p q t e) (span_runs p q pp pq l)))
      (λ e. collinear_in p q t (zero_too L.a L.b L.c (span_a p q) (span_b p q) (span_c p q) t.x t.y t.w ew ex ey (along_out k t e) (segment_runs k h)));
}

-- ---- parallel lines with a common point
pub apart_out : (a b : ℤ) → int_eq a b ≡ true → a -ℤ b ≡ pos 0
apart_out a b h = zero_of (eq_out a b h)
  where
    zero_of : a ≡ b → a -ℤ b ≡ pos 0
    zero_of e = omega (arith, ints)

pub parallel_same : (k m : Piece) → IsProperPiece k → IsProperPiece m → are_parallel (line_of_segment k.segment) (line_of_segment m.segment) ≡ true → (t : Point) → IsProper t → along k t ≡ true → along m t ≡ true → SameLine k m
parallel_same k m hk hm e t pt s1 s2 =
    let L : Line = line_of_segment k.segment in
    let M : Line = line_of_segment m.segment in
    let ew : L.a *ℤ M.b -ℤ M.a *ℤ L.b ≡ pos 0 = apart_out (L.a *ℤ M.b) (M.a *ℤ L.b) e in
    let o = parallel_share L.a L.b L.c M.a M.b M.c t.x t.y t.w pt.positive ew (along_out k t s1) (along_out m t s2) in
    record {
      same = λ u pu. both_ways (along k u) (along m u)
          (λ f. along_in m u (zero_too L.a L.b L.c M.a M.b M.c u.x u.y u.w ew o.0 o.1 (along_out k u f) (segment_runs k hk)))
          (λ f. along_in k u (zero_too M.a M.b M.c L.a L.b L.c u.x u.y u.w (turned L.a M.b M.a L.b ew) (turned L.b M.c M.b L.c o.0) (turned L.c M.a M.c L.a o.1) (along_out m u f) (segment_runs m hm)));
    }

-- two lines of segments that are parallel and share a point have the same numbers
pub same_numbers : (k m : Piece) → IsProperPiece k → IsProperPiece m → are_parallel (line_of_segment k.segment) (line_of_segment m.segment) ≡ true → (t : Point) → IsProper t → along k t ≡ true → along m t ≡ true → line_of_segment k.segment ≡ line_of_segment m.segment
same_numbers k m hk hm e t pt s1 s2 =
    let L : Line = line_of_segment k.segment in
    let M : Line = line_of_segment m.segment in
    let ew : L.a *ℤ M.b -ℤ M.a *ℤ L.b ≡ pos 0 = apart_out (L.a *ℤ M.b) (M.a *ℤ L.b) e in
    let o = parallel_share L.a L.b L.c M.a M.b M.c t.x t.y t.w pt.positive ew (along_out k t s1) (along_out m t s2) in
    let s = same_line L.a L.b L.c M.a M.b M.c (line_of_segment-lowest k.segment hk.lower hk.upper hk.ahead) (line_of_segment-lowest m.segment hm.lower hm.upper hm.ahead) (segment_runs k hk) (segment_runs m hm) ew o.0 o.1 in
    λ i. record { a = s.0 i; b = s.1 i; c = s.2 i }

-- ---- the crossing
-- p is (x / w, y / w) in lowest terms
pub record IsReduced (x y w : ℤ) (p : Point) : Type 0 where
  pub proper : IsProper p
  pub factor : ℤ
  pub factor_pos : pos 0 <ℤ factor
  pub x_is : p.x *ℤ factor ≡ x
  pub y_is : p.y *ℤ factor ≡ y
  pub w_is : p.w *ℤ factor ≡ w

weight_some : (x y w : ℤ) → pos 0 <ℤ w → 0 < unsigned_abs x + unsigned_abs y + unsigned_abs w
weight_some x y w h = omega (arith, ints)

pub reduced_is : (x y w : ℤ) → pos 0 <ℤ w → IsReduced x y w (reduced x y w)
reduced_is x y w h =
    let g : ℕ = common_divisor x y w in
    let some : 0 < common_divisor x y w = common_divisor-positive x y w (weight_some x y w h) in
    record {
      proper = record { positive = divided_pos w g (common_divisor-third x y w) some h; lowest = reduced_lowest x y w some };
      factor = pos g;
      factor_pos = above_zero g some;
      x_is = divided x g (common_divisor-first x y w);
      y_is = divided y g (common_divisor-second x y w);
      w_is = divided w g (common_divisor-third x y w);
    }

pub point_is : (x y w : ℤ) (t p : Point) → IsReduced x y w p → IsProper t → t.x *ℤ w ≡ x *ℤ t.w → t.y *ℤ w ≡ y *ℤ t.w → t ≡ p
point_is x y w t p r pt ex ey =
    let s = lowest_same t.x t.y t.w p.x p.y p.w pt.positive r.proper.positive pt.lowest r.proper.lowest
    (same_over t.x t.w p.x p.w r.factor r.factor_pos (ap (λ z. t.x *ℤ z) r.w_is ∙ ex ∙ ap (λ z. z *ℤ t.w) (sym r.x_is)))
    (same_over t.y t.w p.y p.w r.factor r.factor_pos (ap (λ z. t.y *ℤ z) r.w_is ∙ ey ∙ ap (λ z. z *ℤ t.w) (sym r.y_is))) in
    path_of t p s.0 s.1 s.2

pub minus_eq : (t w x u : ℤ) → t *ℤ w ≡ x *ℤ u → t *ℤ neg_ℤ w ≡ neg_ℤ x *ℤ u
minus_eq t w x u e = ring (t ∷ w ∷ []) (search sides depth 40 fits 20000) tt ∙ ap neg_ℤ e ∙ ring (x ∷ u ∷ []) (search sides depth 40 fits 20000) tt

pub proper_at : (x y w : ℤ) → (w ≡ pos 0 → ⊥) → IsProper (homogeneous_point x y w)
unfolding homogeneous_point
proper_at x y (pos zero) f = absurd (f refl)
proper_at x y (pos (suc n)) f = (reduced_is x y (pos (suc n)) (above_zero (suc n) (omega arith))).proper
proper_at x y (negsuc n) f = (reduced_is (neg_ℤ x) (neg_ℤ y) (pos (suc n)) (above_zero (suc n) (omega arith))).proper

pub is_at_w : (x y w : ℤ) → (w ≡ pos 0 → ⊥) → (t : Point) → IsProper t → t.x *ℤ w ≡ x *ℤ t.w → t.y *ℤ w ≡ y *ℤ t.w → t ≡ homogeneous_point x y w
unfolding homogeneous_point
is_at_w x y (pos zero) f t pt ex ey = absurd (f refl)
is_at_w x y (pos (suc n)) f t pt ex ey = point_is x y (pos (suc n)) t (reduced x y (pos (suc n))) (reduced_is x y (pos (suc n)) (above_zero (suc n) (omega arith))) pt ex ey
is_at_w x y (negsuc n) f t pt ex ey =
    point_is (neg_ℤ x) (neg_ℤ y) (pos (suc n)) t (reduced (neg_ℤ x) (neg_ℤ y) (pos (suc n))) (reduced_is (neg_ℤ x) (neg_ℤ y) (pos (suc n)) (above_zero (suc n) (omega arith))) pt (minus_eq t.x (negsuc n) x t.w ex) (minus_eq t.y (negsuc n) y t.w ey)

pub not_zero : (a b : ℤ) → int_eq a b ≡ false → a -ℤ b ≡ pos 0 → ⊥
not_zero a b h e = clash (ap is_eq (equal_in a b (eq_of e))) h
  where
    eq_of : a -ℤ b ≡ pos 0 → a ≡ b
    eq_of f = omega (arith, ints)

pub crossing_proper : (k m : Piece) → IsProperPiece k → IsProperPiece m → are_parallel (line_of_segment k.segment) (line_of_segment m.segment) ≡ false → IsProper (crossing (line_of_segment k.segment) (line_of_segment m.segment))
unfolding crossing
crossing_proper k m hk hm e =
    let L : Line = line_of_segment k.segment in
    let M : Line = line_of_segment m.segment in
    proper_at (L.b *ℤ M.c -ℤ M.b *ℤ L.c) (L.c *ℤ M.a -ℤ M.c *ℤ L.a) (L.a *ℤ M.b -ℤ M.a *ℤ L.b) (not_zero (L.a *ℤ M.b) (M.a *ℤ L.b) e)

pub crossing_is : (k m : Piece) → IsProperPiece k → IsProperPiece m → are_parallel (line_of_segment k.segment) (line_of_segment m.segment) ≡ false → (t : Point) → IsProper t → along k t ≡ true → along m t ≡ true → t ≡ crossing (line_of_segment k.segment) (line_of_segment m.segment)
unfolding crossing
crossing_is k m hk hm e t pt s1 s2 =
    let L : Line = line_of_segment k.segment in
    let M : Line = line_of_segment m.segment in
    let o = cross_only L.a L.b L.c M.a M.b M.c t.x t.y t.w (along_out k t s1) (along_out m t s2) in
    is_at_w (L.b *ℤ M.c -ℤ M.b *ℤ L.c) (L.c *ℤ M.a -ℤ M.c *ℤ L.a) (L.a *ℤ M.b -ℤ M.a *ℤ L.b) (not_zero (L.a *ℤ M.b) (M.a *ℤ L.b) e) t pt o.0 o.1

pub geometry : Geometry
geometry = record { straight = straight; crossing_proper = crossing_proper; crossing_is = crossing_is; parallel_same = parallel_same }

pub before_of : (p q : Point) → IsProper p → IsProper q → Lt p q → Before p.x p.y p.w q.x q.y q.w
before_of p q hp hq l =
    ⊎_elim
    (λ (h : pos 0 <ℤ span_b p q). inl (omega (arith, ints)))
    (λ (h : (span_b p q ≡ pos 0) × (span_a p q <ℤ pos 0)). inr (omega (arith, ints, h.0), omega (arith, ints, h.1)))
    (span_runs p q hp hq l)
