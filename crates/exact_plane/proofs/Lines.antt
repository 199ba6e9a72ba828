-- The line through the ends of a segment.
use Rattle.std.proofs.Common.{◌≡◌, zero, suc, ◌+◌, ◌*◌, ◌<◌, [], ◌∷◌, ℤ, pos, negsuc, ◌+ℤ◌, ◌-ℤ◌, ◌*ℤ◌, ◌<ℤ◌, ◌≤ℤ◌, neg_ℤ, unsigned_abs, refl, ap, sym, ◌∙◌, subst, arith}
use Rattle.std.specs.Ordering.{int_cmp}
use Rattle.std.proofs.lemmas.Int.{ints}
use Rattle.integers.specs.Lowest.{common_divisor}
use Rattle.integers.proofs.Compare.{same_cmp}
use Rattle.integers.proofs.Gcd.{common_divisor-first, common_divisor-second, common_divisor-third, common_divisor-positive}
use Rattle.integers.proofs.Reduce.{divided, divided_le, reduced_lowest}
use Rattle.integers.proofs.Reify.{ring, sides}
use Rattle.integers.proofs.Signs.{cancel_pos, cancel_nonneg, cancel_zero}
use Rattle.integers.proofs.Sizes.{size_minus, size_product}
use Rattle.exact_plane.specs.declared.bounds.TheConstants.{MAX_COORDINATE}
use Rattle.exact_plane.specs.Line.{side_of, turn_at, reduced_line, IsForward, IsLine, IsOn, AreLineNumbers}
use Rattle.exact_plane.specs.Plane.{side}
use Rattle.exact_plane.specs.Point.{Point}
use Rattle.exact_plane.specs.Segment.{Segment, segment, line_of_segment, IsSegment}
use Rattle.exact_plane.proofs.Wholes.{runs_on}

-- ---- a line divided by g
module _ (a b c p q r g : ℤ) (hg : pos 0 <ℤ g) (ea : p *ℤ g ≡ a) (eb : q *ℤ g ≡ b) (ec : r *ℤ g ≡ c) where
  pub divided_side : (X Y W : ℤ) → side p q r X Y W *ℤ g ≡ side a b c X Y W
  divided_side X Y W = ring (p ∷ q ∷ r ∷ g ∷ X ∷ Y ∷ W ∷ []) (search sides depth 40 fits 20000) tt ∙ (λ i. ea i *ℤ X +ℤ eb i *ℤ Y +ℤ ec i *ℤ W)

  divided_forward : IsForward a b → IsForward p q
  divided_forward f = record {
    forward = cancel_nonneg hg (subst (λ z. pos 0 ≤ℤ z) (sym eb) f.forward);
    upward = λ e. below (f.upward (sym eb ∙ ap (λ z. z *ℤ g) e ∙ ring (g ∷ []) (search sides depth 40 fits 20000) tt));
  }
    where
      below : a <ℤ pos 0 → p <ℤ pos 0
      below h =
          let e : neg_ℤ p *ℤ g ≡ neg_ℤ a = ring (p ∷ g ∷ []) (search sides depth 40 fits 20000) tt ∙ ap neg_ℤ ea in
          let k : pos 0 <ℤ neg_ℤ a = omega (arith, ints) in
          let m : pos 0 <ℤ neg_ℤ p = cancel_pos {x = neg_ℤ p} hg (subst (λ z. pos 0 <ℤ z) (sym e) k) in
          omega (arith, ints)

module _ (a b c : ℤ) (n : AreLineNumbers a b c) where
  some : 0 < common_divisor a b c
  some = common_divisor-positive a b c (at a b n.runs)
    where
      at : (a b : ℤ) → IsForward a b → 0 < unsigned_abs a + unsigned_abs b + unsigned_abs c
      at a (pos zero) f = let h : a <ℤ pos 0 = f.upward refl in omega (arith, ints)
      at a (pos (suc m)) f = omega (arith, ints)
      at a (negsuc m) f = let h = f.forward in absurd (omega (arith, ints))

  some_whole : pos 0 <ℤ pos (common_divisor a b c)
  some_whole = let k = some in omega (arith, ints)

  pub reduced_is : IsLine (reduced_line a b c)
  reduced_is =
      let first = divided_le a (common_divisor a b c) (common_divisor-first a b c) some in
      let second = divided_le b (common_divisor a b c) (common_divisor-second a b c) some in
      let third = divided_le c (common_divisor a b c) (common_divisor-third a b c) some in
      record {
        a_within = (let h = n.a_within in omega arith);
        b_within = (let h = n.b_within in omega arith);
        c_within = (let h = n.c_within in omega arith);
        lowest = reduced_lowest a b c some;
        runs = divided_forward a b c _ _ _ (pos (common_divisor a b c)) some_whole (divided a _ (common_divisor-first a b c)) (divided b _ (common_divisor-second a b c)) (divided c _ (common_divisor-third a b c)) n.runs;
      }

  pub reduced_side : (t : Point) → side_of (reduced_line a b c) t *ℤ pos (common_divisor a b c) ≡ side a b c t.x t.y t.w
  reduced_side t = divided_side a b c _ _ _ (pos (common_divisor a b c)) some_whole (divided a _ (common_divisor-first a b c)) (divided b _ (common_divisor-second a b c)) (divided c _ (common_divisor-third a b c)) t.x t.y t.w

  pub reduced_on : (t : Point) → side a b c t.x t.y t.w ≡ pos 0 → IsOn (reduced_line a b c) t
  reduced_on t e = cancel_zero some_whole (reduced_side t ∙ e)

-- ---- of two ends
module _ (x1 y1 x2 y2 : ℤ) (s : IsSegment x1 y1 x2 y2) where
  pub are_line_numbers : AreLineNumbers (y1 -ℤ y2) (x2 -ℤ x1) (x1 *ℤ y2 -ℤ x2 *ℤ y1)
  are_line_numbers =
      let k = s.within in
      let r = runs_on x1 y1 x2 y2 s in
      let m = size_minus (x1 *ℤ y2) (x2 *ℤ y1) (MAX_COORDINATE * MAX_COORDINATE) (MAX_COORDINATE * MAX_COORDINATE) (size_product x1 y2 MAX_COORDINATE MAX_COORDINATE k.first_x k.second_y) (size_product x2 y1 MAX_COORDINATE MAX_COORDINATE k.second_x k.first_y) in
      record {
        a_within = (let h = size_minus y1 y2 MAX_COORDINATE MAX_COORDINATE k.first_y k.second_y in omega arith);
        b_within = (let h = size_minus x2 x1 MAX_COORDINATE MAX_COORDINATE k.second_x k.first_x in omega arith);
        c_within = omega arith;
        runs = record { forward = r.0; upward = r.1 };
      }

  pub lower_on' : IsOn (line_of_segment (segment x1 y1 x2 y2)) (segment x1 y1 x2 y2).lower
  lower_on' = reduced_on _ _ _ are_line_numbers (segment x1 y1 x2 y2).lower (ring (x1 ∷ y1 ∷ x2 ∷ y2 ∷ []) (search sides depth 40 fits 20000) tt)

  pub upper_on' : IsOn (line_of_segment (segment x1 y1 x2 y2)) (segment x1 y1 x2 y2).upper
  upper_on' = reduced_on _ _ _ are_line_numbers (segment x1 y1 x2 y2).upper (ring (x1 ∷ y1 ∷ x2 ∷ y2 ∷ []) (search sides depth 40 fits 20000) tt)

  -- the numbers of the ends tell the side before they are brought to lowest terms
  pub by_ends' : (t : Point) → int_cmp (side_of (line_of_segment (segment x1 y1 x2 y2)) t) (pos 0) ≡ int_cmp (side (y1 -ℤ y2) (x2 -ℤ x1) (x1 *ℤ y2 -ℤ x2 *ℤ y1) t.x t.y t.w) (pos 0)
  by_ends' t = alike _ _ (pos (common_divisor (y1 -ℤ y2) (x2 -ℤ x1) (x1 *ℤ y2 -ℤ x2 *ℤ y1))) (some_whole _ _ _ are_line_numbers) (reduced_side _ _ _ are_line_numbers t)
    where
      alike : (z u g : ℤ) → pos 0 <ℤ g → z *ℤ g ≡ u → int_cmp z (pos 0) ≡ int_cmp u (pos 0)
      alike z u g hg e = same_cmp z (pos 0) u (pos 0) {k = g} {m = pos 1} hg (omega (arith, ints)) (ring (z ∷ g ∷ []) (search sides depth 40 fits 20000) tt ∙ ap neg_ℤ e ∙ ring (u ∷ []) (search sides depth 40 fits 20000) tt)

  pub left' : (t : Point) → int_cmp (side_of (line_of_segment (segment x1 y1 x2 y2)) t) (pos 0) ≡ int_cmp (turn_at (segment x1 y1 x2 y2).lower (segment x1 y1 x2 y2).upper t) (pos 0)
  left' t =
      let e : side (y1 -ℤ y2) (x2 -ℤ x1) (x1 *ℤ y2 -ℤ x2 *ℤ y1) t.x t.y t.w ≡ turn_at (segment x1 y1 x2 y2).lower (segment x1 y1 x2 y2).upper t = ring (x1 ∷ y1 ∷ x2 ∷ y2 ∷ t.x ∷ t.y ∷ t.w ∷ []) (search sides depth 40 fits 20000) tt in
      by_ends' t ∙ ap (λ z. int_cmp z (pos 0)) e

-- ---- of a segment, whose numbers these are
module _ (x1 y1 x2 y2 : ℤ) (i : IsSegment x1 y1 x2 y2) (s : Segment) (e : segment x1 y1 x2 y2 ≡ s) where
  pub lower_on : IsOn (line_of_segment s) s.lower
  lower_on = subst (λ (t : Segment). IsOn (line_of_segment t) t.lower) e (lower_on' x1 y1 x2 y2 i)

  pub upper_on : IsOn (line_of_segment s) s.upper
  upper_on = subst (λ (t : Segment). IsOn (line_of_segment t) t.upper) e (upper_on' x1 y1 x2 y2 i)

  pub left : (t : Point) → int_cmp (side_of (line_of_segment s) t) (pos 0) ≡ int_cmp (turn_at s.lower s.upper t) (pos 0)
  left t = subst (λ (u : Segment). int_cmp (side_of (line_of_segment u) t) (pos 0) ≡ int_cmp (turn_at u.lower u.upper t) (pos 0)) e (left' x1 y1 x2 y2 i t)

  pub by_ends : (t : Point) → int_cmp (side_of (line_of_segment s) t) (pos 0) ≡ int_cmp (side (y1 -ℤ y2) (x2 -ℤ x1) (x1 *ℤ y2 -ℤ x2 *ℤ y1) t.x t.y t.w) (pos 0)
  by_ends t = subst (λ (u : Segment). int_cmp (side_of (line_of_segment u) t) (pos 0) ≡ int_cmp (side (y1 -ℤ y2) (x2 -ℤ x1) (x1 *ℤ y2 -ℤ x2 *ℤ y1) t.x t.y t.w) (pos 0)) e (by_ends' x1 y1 x2 y2 i t)
