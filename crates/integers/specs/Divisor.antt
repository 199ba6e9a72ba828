-- The greatest common divisor.
use Rattle.std.specs.Prelude.{ℕ, zero, suc, ◌%◌, ◌==◌, if◌then◌else◌}

-- by Euclid's steps, at most as many as the first number says
unfoldable pub gcd_within : ℕ → ℕ → ℕ → ℕ
gcd_within zero a b = a
gcd_within (suc k) a b = if b == 0 then a else gcd_within k b (a % b)

-- the greatest common divisor of two numbers, which is 0 for two zeros
unfoldable pub gcd : ℕ → ℕ → ℕ
gcd a b = gcd_within b a b
