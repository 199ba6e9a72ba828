-- A segment as its two ends, and which two are a segment's.
use Rattle.std.specs.Prelude.{◌≡◌, ◌≤◌, Bool, ◌&&◌, ◌||◌, ℤ, pos, unsigned_abs, int_lt, nat_le}
use Rattle.std.specs.Ordering.{int_eq}
use Rattle.std.specs.declared.cmp.Ordering.TheVariants.{Less}
use Rattle.exact_plane.specs.declared.bounds.TheConstants.{MAX_COORDINATE}
use Rattle.exact_plane.specs.Line.{Line, line_through}
use Rattle.exact_plane.specs.Point.{Point}
use Rattle.exact_plane.specs.PointOrder.{point_cmp}

-- the lower end is the lesser in point order
pub record Segment : Type 0 where
  pub lower : Point
  pub upper : Point

-- a point with whole coordinates
abbrev pub whole_point : ℤ → ℤ → Point
whole_point x y = record { x = x; y = y; w = pos 1 }

-- the numbers of two ends
abbrev pub segment : ℤ → ℤ → ℤ → ℤ → Segment
segment x1 y1 x2 y2 = record { lower = whole_point x1 y1; upper = whole_point x2 y2 }

-- a coordinate isn't larger in size than the largest
abbrev pub IsCoordinate : ℤ → Type 0
IsCoordinate z = unsigned_abs z ≤ MAX_COORDINATE

-- four coordinates of two ends
pub record AreCoordinates (x1 y1 x2 y2 : ℤ) : Type 0 where
  pub first_x : IsCoordinate x1
  pub first_y : IsCoordinate y1
  pub second_x : IsCoordinate x2
  pub second_y : IsCoordinate y2

-- whether a number is a coordinate
abbrev pub is_coordinate : ℤ → Bool
is_coordinate z = nat_le (unsigned_abs z) MAX_COORDINATE

-- whether all four are
abbrev pub are_coordinates : ℤ → ℤ → ℤ → ℤ → Bool
are_coordinates x1 y1 x2 y2 = is_coordinate x1 && (is_coordinate y1 && (is_coordinate x2 && is_coordinate y2))

-- whether the first end comes first in point order
abbrev pub is_before : ℤ → ℤ → ℤ → ℤ → Bool
is_before x1 y1 x2 y2 = int_lt x1 x2 || (int_eq x1 x2 && int_lt y1 y2)

-- four numbers that are a segment's
pub record IsSegment (x1 y1 x2 y2 : ℤ) : Type 0 where
  pub within : AreCoordinates x1 y1 x2 y2
  pub ascending : point_cmp (whole_point x1 y1) (whole_point x2 y2) ≡ Less

-- two ends that are a segment's
pub record AreEnds (s : Segment) : Type 0 where
  pub whole : s ≡ segment s.lower.x s.lower.y s.upper.x s.upper.y
  pub is : IsSegment s.lower.x s.lower.y s.upper.x s.upper.y

-- the line of a segment, which runs from its lower to its upper end
abbrev pub line_of_segment : Segment → Line
line_of_segment s = line_through s.lower s.upper
