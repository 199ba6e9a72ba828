-- Three numbers divided by their greatest common divisor.
use Rattle.std.proofs.Common.{◌≡◌, ℕ, zero, suc, ◌*◌, ◌<◌, ◌≤◌, [], ◌∷◌, ℤ, pos, negsuc, ◌+ℤ◌, ◌*ℤ◌, ◌<ℤ◌, neg_ℤ, unsigned_abs, int_div, refl, ap, sym, ◌∙◌, subst, arith}
use Rattle.std.specs.Int.{◌∣◌}
use Rattle.std.proofs.Math.IntN.{+ℤ_idr}
use Rattle.std.proofs.Math.Nat.{mul-dvd-mul_right, eq-zero_of_zero-dvd, le_of_mul-le-mul_right, mul_assoc}
use Rattle.std.proofs.lemmas.Int.{ints, quot-rem, unsigned_abs-mul}
use Rattle.std.proofs.lemmas.Nat.Gcd.{mod-eq-zero_of_dvd, le_of_dvd}
use Rattle.integers.specs.Lowest.{common_divisor, IsLowest}
use Rattle.integers.proofs.Gcd.{common_divisor-first, common_divisor-second, common_divisor-third, common_divisor-greatest}
use Rattle.integers.proofs.Reify.{ring, sides}
use Rattle.integers.proofs.Signs.{cancel_pos}

-- ---- a quotient that leaves no rest
pub divided : (x : ℤ) (g : ℕ) → g ∣ unsigned_abs x → int_div x (pos g) *ℤ pos g ≡ x
divided (pos a) g h = sym (+ℤ_idr (int_div (pos a) (pos g) *ℤ pos g)) ∙ ap (λ r. int_div (pos a) (pos g) *ℤ pos g +ℤ pos r) (sym (mod-eq-zero_of_dvd g h)) ∙ quot-rem (pos a) (pos g)
divided (negsuc a) g h = sym (+ℤ_idr (int_div (negsuc a) (pos g) *ℤ pos g)) ∙ ap (λ r. int_div (negsuc a) (pos g) *ℤ pos g +ℤ neg_ℤ (pos r)) (sym (mod-eq-zero_of_dvd g h)) ∙ quot-rem (negsuc a) (pos g)

pub size-divided : (x : ℤ) (g : ℕ) → g ∣ unsigned_abs x → unsigned_abs (int_div x (pos g)) * g ≡ unsigned_abs x
size-divided x g h = sym (unsigned_abs-mul (int_div x (pos g)) (pos g)) ∙ ap unsigned_abs (divided x g h)

pub divided_pos : (w : ℤ) (g : ℕ) → g ∣ unsigned_abs w → 0 < g → pos 0 <ℤ w → pos 0 <ℤ int_div w (pos g)
divided_pos w g h some p = cancel_pos {x = int_div w (pos g)} {k = pos g} (omega (arith, ints)) (subst (λ z. pos 0 <ℤ z) (sym (divided w g h)) p)

-- a quotient isn't larger
pub divided_le : (x : ℤ) (g : ℕ) → g ∣ unsigned_abs x → 0 < g → unsigned_abs (int_div x (pos g)) ≤ unsigned_abs x
divided_le x g h some = at (unsigned_abs (int_div x (pos g))) g (unsigned_abs x) (size-divided x g h) some
  where
    at : (q g n : ℕ) → q * g ≡ n → 0 < g → q ≤ n
    at q g n e some = let k : q ≤ q * g = grind arith in omega arith

-- a bound on a ratio stays, where both numbers are divided
pub divided_within : (x w : ℤ) (m g : ℕ) → 0 < g → g ∣ unsigned_abs x → g ∣ unsigned_abs w → unsigned_abs x ≤ m * unsigned_abs w → unsigned_abs (int_div x (pos g)) ≤ m * unsigned_abs (int_div w (pos g))
divided_within x w m g some hx hw le =
    at (unsigned_abs x) (unsigned_abs w) (unsigned_abs (int_div x (pos g))) (unsigned_abs (int_div w (pos g))) (size-divided x g hx) (size-divided w g hw) le
  where
    at : (a b p q : ℕ) → p * g ≡ a → q * g ≡ b → a ≤ m * b → p ≤ m * q
    at a b p q ea eb le =
        let e : m * q * g ≡ m * b = mul_assoc m q g ∙ ap (λ n. m * n) eb in
        le_of_mul-le-mul_right (subst (λ n. p * g ≤ n) (sym e) (subst (λ n. n ≤ m * b) (sym ea) le)) some

-- a ratio stays, where both numbers are divided
pub same_ratio : (x w p q g : ℤ) → p *ℤ g ≡ x → q *ℤ g ≡ w → p *ℤ w ≡ x *ℤ q
same_ratio x w p q g ex ew =
    ap (λ z. p *ℤ z) (sym ew) ∙ ring (p ∷ q ∷ g ∷ []) (search sides depth 40 fits 20000) tt ∙ ap (λ z. z *ℤ q) ex

-- ---- by the greatest common divisor
one_only : (d g : ℕ) → 0 < g → d * g ∣ g → d ≡ 1
one_only zero g h e = absurd (none (eq-zero_of_zero-dvd (subst (λ n. n ∣ g) zero-times e)))
  where
    zero-times : 0 * g ≡ 0
    zero-times = omega arith

    none : g ≡ 0 → ⊥
    none z = omega arith
one_only (suc zero) g h e = refl
one_only (suc (suc d)) g h e = let l = le_of_dvd h e in absurd (omega arith)

module _ (x y w : ℤ) where
  pub reduced_lowest : 0 < common_divisor x y w → IsLowest (int_div x (pos (common_divisor x y w))) (int_div y (pos (common_divisor x y w))) (int_div w (pos (common_divisor x y w)))
  reduced_lowest some =
      let g : ℕ = common_divisor x y w in
      let left : ℕ = common_divisor (int_div x (pos g)) (int_div y (pos g)) (int_div w (pos g)) in
      let whole : (z : ℤ) → g ∣ unsigned_abs z → left ∣ unsigned_abs (int_div z (pos g)) → left * g ∣ unsigned_abs z = λ z h k. subst (λ n. left * g ∣ n) (size-divided z g h) (mul-dvd-mul_right left k g) in
      one_only left g some (common_divisor-greatest x y w (left * g)
      (whole x (common_divisor-first x y w) (common_divisor-first (int_div x (pos g)) (int_div y (pos g)) (int_div w (pos g))))
      (whole y (common_divisor-second x y w) (common_divisor-second (int_div x (pos g)) (int_div y (pos g)) (int_div w (pos g))))
      (whole w (common_divisor-third x y w) (common_divisor-third (int_div x (pos g)) (int_div y (pos g)) (int_div w (pos g)))))
