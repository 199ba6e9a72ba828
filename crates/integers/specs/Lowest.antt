-- Three numbers with no common divisor, as a point's or a line's.
use Rattle.std.specs.Prelude.{◌≡◌, ℕ, ℤ, unsigned_abs}
use Rattle.integers.specs.Divisor.{gcd}

-- the greatest common divisor of three numbers
abbrev pub common_divisor : ℤ → ℤ → ℤ → ℕ
common_divisor x y w = gcd (gcd (unsigned_abs x) (unsigned_abs y)) (unsigned_abs w)

-- no number but 1 divides all three
abbrev pub IsLowest : ℤ → ℤ → ℤ → Type 0
IsLowest x y w = common_divisor x y w ≡ 1
