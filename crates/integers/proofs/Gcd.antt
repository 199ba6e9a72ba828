-- Euclid's steps give the greatest common divisor, of two numbers and of three.
use Rattle.std.proofs.Common.{◌≡◌, ℕ, zero, suc, ◌+◌, ◌%◌, ◌<◌, ◌≤◌, Bool, true, false, cond, eqb, ℤ, unsigned_abs, refl, subst, arith}
use Rattle.std.specs.Int.{◌∣◌, IsGcd}
use Rattle.std.proofs.lemmas.Nat.Gcd.{IsGcd-from_zero, IsGcd-from_mod, same_from_IsGcd, le_of_dvd, dvd_trans}
use Rattle.std.proofs.lemmas.Bool.{eqb-true, eqb-false}
use Rattle.std.proofs.Math.Nat.{mod-lt, eq-zero_of_zero-dvd}
use Rattle.integers.specs.Divisor.{gcd_within, gcd}
use Rattle.integers.specs.Lowest.{common_divisor, IsLowest}

IsGcd-step : (k a b : ℕ) → b ≤ suc k → (t : Bool) → eqb b 0 ≡ t → ((a b : ℕ) → b ≤ k → IsGcd a b (gcd_within k a b)) → IsGcd a b (cond t a (gcd_within k b (a % b)))
IsGcd-step k a b le true e ih = IsGcd-from_zero a b (eqb-true b 0 e)
IsGcd-step k a b le false e ih =
    let some : b ≡ 0 → _ = eqb-false b 0 e in
    let small : a % b < b = mod-lt a (omega arith) in
    IsGcd-from_mod a b (gcd_within k b (a % b)) (ih b (a % b) (omega arith))

IsGcd-gcd_within : (k a b : ℕ) → b ≤ k → IsGcd a b (gcd_within k a b)
unfolding gcd_within
IsGcd-gcd_within zero a b le = IsGcd-from_zero a b (omega arith)
IsGcd-gcd_within (suc k) a b le = IsGcd-step k a b le (eqb b 0) refl (IsGcd-gcd_within k)

pub IsGcd-gcd : (a b : ℕ) → IsGcd a b (gcd a b)
unfolding gcd
IsGcd-gcd a b = IsGcd-gcd_within b a b (omega arith)

pub gcd-is : (a b g : ℕ) → IsGcd a b g → g ≡ gcd a b
gcd-is a b g h = same_from_IsGcd a b g (gcd a b) h (IsGcd-gcd a b)

pub positive_divisor : (d n : ℕ) → d ∣ n → 0 < n → 0 < d
positive_divisor zero n h some = let e : n ≡ 0 = eq-zero_of_zero-dvd h in omega arith
positive_divisor (suc d) n h some = omega arith

pub positive_gcd : (a b g : ℕ) → IsGcd a b g → 0 < a + b → 0 < g
positive_gcd zero b g h some = positive_divisor g b h.1 (omega arith)
positive_gcd (suc a) b g h some = positive_divisor g (suc a) h.0 (omega arith)

pub gcd-le_first : (a b g : ℕ) → IsGcd a b g → 0 < a → g ≤ a
gcd-le_first a b g h some = le_of_dvd some h.0

pub gcd-le_second : (a b g : ℕ) → IsGcd a b g → 0 < b → g ≤ b
gcd-le_second a b g h some = le_of_dvd some h.1

-- ---- three numbers
module _ (x y w : ℤ) where
  pub common_divisor-first : common_divisor x y w ∣ unsigned_abs x
  common_divisor-first = dvd_trans (common_divisor x y w) (IsGcd-gcd (gcd (unsigned_abs x) (unsigned_abs y)) (unsigned_abs w)).0 (IsGcd-gcd (unsigned_abs x) (unsigned_abs y)).0

  pub common_divisor-second : common_divisor x y w ∣ unsigned_abs y
  common_divisor-second = dvd_trans (common_divisor x y w) (IsGcd-gcd (gcd (unsigned_abs x) (unsigned_abs y)) (unsigned_abs w)).0 (IsGcd-gcd (unsigned_abs x) (unsigned_abs y)).1

  pub common_divisor-third : common_divisor x y w ∣ unsigned_abs w
  common_divisor-third = (IsGcd-gcd (gcd (unsigned_abs x) (unsigned_abs y)) (unsigned_abs w)).1

  pub common_divisor-greatest : (d : ℕ) → d ∣ unsigned_abs x → d ∣ unsigned_abs y → d ∣ unsigned_abs w → d ∣ common_divisor x y w
  common_divisor-greatest d p q r = (IsGcd-gcd (gcd (unsigned_abs x) (unsigned_abs y)) (unsigned_abs w)).2 d ((IsGcd-gcd (unsigned_abs x) (unsigned_abs y)).2 d p q) r

  pub common_divisor-positive : 0 < unsigned_abs x + unsigned_abs y + unsigned_abs w → 0 < common_divisor x y w
  common_divisor-positive some = at (unsigned_abs x) (unsigned_abs y) (unsigned_abs w) common_divisor-first common_divisor-second common_divisor-third some
    where
      at : (a b c : ℕ) → common_divisor x y w ∣ a → common_divisor x y w ∣ b → common_divisor x y w ∣ c → 0 < a + b + c → 0 < common_divisor x y w
      at (suc a) b c p q r some = positive_divisor (common_divisor x y w) (suc a) p (omega arith)
      at zero (suc b) c p q r some = positive_divisor (common_divisor x y w) (suc b) q (omega arith)
      at zero zero c p q r some = positive_divisor (common_divisor x y w) c r (omega arith)

  -- what divides all three of lowest terms is 1
  pub divisor_of_lowest : IsLowest x y w → (d : ℕ) → d ∣ unsigned_abs x → d ∣ unsigned_abs y → d ∣ unsigned_abs w → d ≡ 1
  divisor_of_lowest lowest d p q r =
      let h : d ∣ 1 = subst (λ (n : ℕ). d ∣ n) lowest (common_divisor-greatest d p q r) in
      let some = positive_divisor d 1 h (omega arith) in
      let few = le_of_dvd (omega arith) h in
      omega arith

  -- and three numbers that only 1 divides are in lowest terms
  pub lowest_by_divisors : ((d : ℕ) → d ∣ unsigned_abs x → d ∣ unsigned_abs y → d ∣ unsigned_abs w → d ≡ 1) → IsLowest x y w
  lowest_by_divisors only = only (common_divisor x y w) common_divisor-first common_divisor-second common_divisor-third
