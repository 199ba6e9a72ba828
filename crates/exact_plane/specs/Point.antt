-- A point as its three numbers, and which three are a point's.
use Rattle.std.specs.Prelude.{◌*◌, ◌<◌, ◌≤◌, Bool, ◌&&◌, ℤ, pos, ◌<ℤ◌, unsigned_abs, int_lt, nat_lt, nat_le, int_div}
use Rattle.exact_plane.specs.declared.bounds.TheConstants.{MAX_COORDINATE, WEIGHT_LIMIT}
use Rattle.std.specs.Ordering.{int_eq}
use Rattle.integers.specs.Lowest.{common_divisor, IsLowest}

-- the place (x / w, y / w)
pub record Point : Type 0 where
  pub x : ℤ
  pub y : ℤ
  pub w : ℤ

-- the weight is positive and below its limit, and no coordinate passes the largest in size
pub record IsInRange (x y w : ℤ) : Type 0 where
  pub positive : pos 0 <ℤ w
  pub small : unsigned_abs w < WEIGHT_LIMIT
  pub x_within : unsigned_abs x ≤ MAX_COORDINATE * unsigned_abs w
  pub y_within : unsigned_abs y ≤ MAX_COORDINATE * unsigned_abs w

-- whether they are in range
abbrev pub in_range : ℤ → ℤ → ℤ → Bool
in_range x y w = int_lt (pos 0) w && (nat_lt (unsigned_abs w) WEIGHT_LIMIT && (nat_le (unsigned_abs x) (MAX_COORDINATE * unsigned_abs w) && nat_le (unsigned_abs y) (MAX_COORDINATE * unsigned_abs w)))

-- the same place in lowest terms
abbrev pub reduced : ℤ → ℤ → ℤ → Point
reduced x y w = let d = pos (common_divisor x y w) in record { x = int_div x d; y = int_div y d; w = int_div w d }

-- a triple that is a point's
pub record IsPoint (p : Point) : Type 0 where
  pub range : IsInRange p.x p.y p.w
  pub lowest : IsLowest p.x p.y p.w

-- whether two points have the same numbers
abbrev pub point_eq : Point → Point → Bool
point_eq p q = int_eq p.x q.x && (int_eq p.y q.y && int_eq p.w q.w)
