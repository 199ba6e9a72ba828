-- Odd and even numbers by their tests.
use Rattle.std.proofs.Common.{◌≡◌, ℕ, zero, suc, ◌+◌, ◌<◌, cond, arith, refl, ap}
use Rattle.std.specs.Prelude.{◌%◌, ◌==◌}
use Rattle.slab_laws.specs.Weights.{Even}

small : (r : ℕ) → r < 2 → r ≡ cond (r == 1) 1 0
small zero h = refl
small (suc zero) h = refl
small (suc (suc r)) h = absurd (omega arith)

pub rest_is : (n : ℕ) → n % 2 ≡ cond (n % 2 == 1) 1 0
rest_is n = small (n % 2) (omega arith)

pub odd_alike : (a b : ℕ) → Even (a + b) → (a % 2 == 1) ≡ (b % 2 == 1)
odd_alike a b h = let e : a % 2 ≡ b % 2 = omega arith in ap (λ n. n == 1) e

pub alike_even : (a b : ℕ) → (a % 2 == 1) ≡ (b % 2 == 1) → Even (a + b)
alike_even a b h =
    let x = rest_is a in
    let y = rest_is b in
    let z : cond {A = ℕ} (a % 2 == 1) 1 0 ≡ cond (b % 2 == 1) 1 0 = ap (λ t. cond {A = ℕ} t 1 0) h in
    omega arith
