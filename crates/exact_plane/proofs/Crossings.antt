-- Two lines share one point, or all, or none.
use Rattle.std.proofs.Common.{◌≡◌, ℕ, [], ◌∷◌, ℤ, pos, ◌-ℤ◌, ◌*ℤ◌, ◌<ℤ◌, neg_ℤ, unsigned_abs, ap, sym, ◌∙◌, subst, arith, inl, inr}
use Rattle.std.specs.Int.{◌∣◌}
use Rattle.std.proofs.lemmas.Int.{ints}
use Rattle.exact_plane.specs.Plane.{side, cross_x, cross_y, cross_w, RunsForward}
use Rattle.integers.specs.Lowest.{IsLowest}
use Rattle.integers.proofs.Reify.{ring, sides}
use Rattle.integers.proofs.Signs.{mul_pos, cancel_zero, same_by, diff_zero}
use Rattle.integers.proofs.Bezout.{lowest_same}
use Rattle.integers.proofs.Gcd.{divisor_of_lowest, lowest_by_divisors}
use Rattle.integers.proofs.Solver.{apart}
use Rattle.exact_plane.proofs.Geometry.{cross_only}

-- a factor that both sides have goes
pub same_over : (X Y U V g : ℤ) → pos 0 <ℤ g → X *ℤ (V *ℤ g) ≡ (U *ℤ g) *ℤ Y → X *ℤ V ≡ U *ℤ Y
same_over X Y U V g hg e = same_by hg (diff_zero {a = X *ℤ (V *ℤ g)} {b = (U *ℤ g) *ℤ Y} e) (ring (X ∷ Y ∷ U ∷ V ∷ g ∷ []) (search sides depth 40 fits 20000) tt)

-- parallel lines that share a point are one line
pub parallel_share : (a1 b1 c1 a2 b2 c2 X Y W : ℤ) → pos 0 <ℤ W → cross_w a1 b1 c1 a2 b2 c2 ≡ pos 0 → side a1 b1 c1 X Y W ≡ pos 0 → side a2 b2 c2 X Y W ≡ pos 0 → (cross_x a1 b1 c1 a2 b2 c2 ≡ pos 0) × (cross_y a1 b1 c1 a2 b2 c2 ≡ pos 0)
parallel_share a1 b1 c1 a2 b2 c2 X Y W hw ew s1 s2 =
    let o = cross_only a1 b1 c1 a2 b2 c2 X Y W s1 s2 in (
      cancel_zero hw (sym o.0 ∙ ap (λ z. X *ℤ z) ew ∙ ring (X ∷ []) (search sides depth 40 fits 20000) tt),
      cancel_zero hw (sym o.1 ∙ ap (λ z. Y *ℤ z) ew ∙ ring (Y ∷ []) (search sides depth 40 fits 20000) tt),
    )

-- ---- lines with the same points have the same numbers
abs_neg : (z : ℤ) → unsigned_abs (neg_ℤ z) ≡ unsigned_abs z
abs_neg z = omega (arith, ints)

-- the order of three numbers and their signs don't matter to lowest terms
lowest_turned : (a b c : ℤ) → IsLowest a b c → IsLowest a c b
lowest_turned a b c l = lowest_by_divisors a c b (λ d da dc db. divisor_of_lowest a b c l d da db dc)

lowest_back : (a b c : ℤ) → IsLowest a b c → IsLowest c b (neg_ℤ a)
lowest_back a b c l = lowest_by_divisors c b (neg_ℤ a) (λ d dc db da. divisor_of_lowest a b c l d (subst (λ (n : ℕ). d ∣ n) (abs_neg a) da) db dc)

steep : (a1 b1 a2 b2 : ℤ) → pos 0 <ℤ b1 → a1 *ℤ b2 -ℤ a2 *ℤ b1 ≡ pos 0 → RunsForward a2 b2 → pos 0 <ℤ b2
steep a1 b1 a2 b2 h e (inl k) = k
steep a1 b1 a2 b2 h e (inr k) =
    let m : pos 0 <ℤ neg_ℤ a2 = (let n : a2 <ℤ pos 0 = k.1 in omega (arith, ints)) in
    let p : pos 0 <ℤ (neg_ℤ a2 *ℤ b1) = mul_pos m h in
    let z : a1 *ℤ b2 ≡ pos 0 = ap (λ y. a1 *ℤ y) k.0 ∙ ring (a1 ∷ []) (search sides depth 40 fits 20000) tt in
    let n : neg_ℤ a2 *ℤ b1 ≡ neg_ℤ (a2 *ℤ b1) = ring (a2 ∷ b1 ∷ []) (search sides depth 40 fits 20000) tt in
    absurd (omega (arith, ints))

pub same_line : (a1 b1 c1 a2 b2 c2 : ℤ) → IsLowest a1 b1 c1 → IsLowest a2 b2 c2 → RunsForward a1 b1 → RunsForward a2 b2 →
    cross_w a1 b1 c1 a2 b2 c2 ≡ pos 0 → cross_x a1 b1 c1 a2 b2 c2 ≡ pos 0 → cross_y a1 b1 c1 a2 b2 c2 ≡ pos 0 → (a1 ≡ a2) × (b1 ≡ b2) × (c1 ≡ c2)
same_line a1 b1 c1 a2 b2 c2 l1 l2 (inl h1) r2 ew ex ey =
    let h2 = steep a1 b1 a2 b2 h1 ew r2 in
    let s = lowest_same a1 c1 b1 a2 c2 b2 h1 h2 (lowest_turned a1 b1 c1 l1) (lowest_turned a2 b2 c2 l2)
    (apart _ _ ew) (ring (b2 ∷ c1 ∷ []) (search sides depth 40 fits 20000) tt ∙ sym (apart (b1 *ℤ c2) (b2 *ℤ c1) ex) ∙ ring (b1 ∷ c2 ∷ []) (search sides depth 40 fits 20000) tt) in
    (s.0, s.2, s.1)
same_line a1 b1 c1 a2 b2 c2 l1 l2 (inr h1) (inl h2) ew ex ey = absurd (clash h1.0 h1.1 (steep a2 b2 a1 b1 h2 (turn ew) (inr h1)))
  where
    turn : a1 *ℤ b2 -ℤ a2 *ℤ b1 ≡ pos 0 → a2 *ℤ b1 -ℤ a1 *ℤ b2 ≡ pos 0
    turn e = omega (arith, ints)

    clash : b1 ≡ pos 0 → a1 <ℤ pos 0 → pos 0 <ℤ b1 → ⊥
    clash e h k = omega (arith, ints)
same_line a1 b1 c1 a2 b2 c2 l1 l2 (inr h1) (inr h2) ew ex ey =
    let s = lowest_same c1 b1 (neg_ℤ a1) c2 b2 (neg_ℤ a2) (up' h1.1) (up' h2.1)
    (lowest_back a1 b1 c1 l1) (lowest_back a2 b2 c2 l2)
    (ring (c1 ∷ a2 ∷ []) (search sides depth 40 fits 20000) tt ∙ ap neg_ℤ (apart (c1 *ℤ a2) (c2 *ℤ a1) ey) ∙ ring (c2 ∷ a1 ∷ []) (search sides depth 40 fits 20000) tt)
    (ring (b1 ∷ a2 ∷ []) (search sides depth 40 fits 20000) tt ∙ ap neg_ℤ (sym (apart (a1 *ℤ b2) (a2 *ℤ b1) ew)) ∙ ring (b2 ∷ a1 ∷ []) (search sides depth 40 fits 20000) tt) in
    (back s.2, s.1, s.0)
  where
    up' : {a : ℤ} → a <ℤ pos 0 → pos 0 <ℤ neg_ℤ a
    up' {a} h = omega (arith, ints)

    back : {a b : ℤ} → neg_ℤ a ≡ neg_ℤ b → a ≡ b
    back {a} {b} e = omega (arith, ints)
