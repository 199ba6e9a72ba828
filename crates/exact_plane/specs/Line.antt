-- A line as its three numbers, and which three are a line's.
use Rattle.std.specs.Prelude.{◌≡◌, ◌≤◌, ℤ, pos, ◌*ℤ◌, ◌-ℤ◌, ◌<ℤ◌, ◌≤ℤ◌, unsigned_abs, int_div}
use Rattle.integers.specs.Lowest.{common_divisor, IsLowest}
use Rattle.exact_plane.specs.declared.bounds.TheConstants.{MAX_DIFFERENCE, MAX_OFFSET}
use Rattle.exact_plane.specs.Plane.{side}
use Rattle.exact_plane.specs.Point.{Point}

-- the line a x + b y + c = 0, with a direction: it has its positive side on the left
pub record Line : Type 0 where
  pub a : ℤ
  pub b : ℤ
  pub c : ℤ

-- positive for a point on the left of the line, 0 for one on it, negative on its right
abbrev pub side_of : Line → Point → ℤ
side_of l p = side l.a l.b l.c p.x p.y p.w

-- the point is on the line
abbrev pub IsOn : Line → Point → Type 0
IsOn l p = side_of l p ≡ pos 0

-- the line runs to the right, or is vertical and runs upwards
pub record IsForward (a b : ℤ) : Type 0 where
  pub forward : pos 0 ≤ℤ b
  pub upward : b ≡ pos 0 → a <ℤ pos 0

-- three numbers that are a line's
pub record IsLine (l : Line) : Type 0 where
  pub a_within : unsigned_abs l.a ≤ MAX_DIFFERENCE
  pub b_within : unsigned_abs l.b ≤ MAX_DIFFERENCE
  pub c_within : unsigned_abs l.c ≤ MAX_OFFSET
  pub lowest : IsLowest l.a l.b l.c
  pub runs : IsForward l.a l.b

-- the numbers of a line before they are brought to lowest terms
pub record AreLineNumbers (a b c : ℤ) : Type 0 where
  pub a_within : unsigned_abs a ≤ MAX_DIFFERENCE
  pub b_within : unsigned_abs b ≤ MAX_DIFFERENCE
  pub c_within : unsigned_abs c ≤ MAX_OFFSET
  pub runs : IsForward a b

-- the same line in lowest terms
abbrev pub reduced_line : ℤ → ℤ → ℤ → Line
reduced_line a b c = let d = pos (common_divisor a b c) in record { a = int_div a d; b = int_div b d; c = int_div c d }

-- the line through two whole points, from the first to the second
abbrev pub line_through : Point → Point → Line
line_through p q = reduced_line (p.y -ℤ q.y) (q.x -ℤ p.x) (p.x *ℤ q.y -ℤ q.x *ℤ p.y)

-- positive where a point is on the left of the way from p to q, which are whole points
abbrev pub turn_at : Point → Point → Point → ℤ
turn_at p q t = (q.x -ℤ p.x) *ℤ (t.y -ℤ p.y *ℤ t.w) -ℤ (q.y -ℤ p.y) *ℤ (t.x -ℤ p.x *ℤ t.w)
