-- A part of a line between two of its points, and the points that lie on it.
use Rattle.std.specs.Prelude.{◌≡◌, Bool, true, ◌&&◌, pos}
use Rattle.std.specs.Ordering.{int_eq, is_lt, is_le}
use Rattle.std.specs.declared.cmp.Ordering.TheVariants.{Less}
use Rattle.exact_plane.specs.Line.{Line, side_of, IsOn, IsLine}
use Rattle.exact_plane.specs.Point.{Point, IsPoint}
use Rattle.exact_plane.specs.PointOrder.{point_cmp}
use Rattle.exact_plane.specs.Segment.{Segment, line_of_segment}

-- the points of the line from the lower end to the upper end, both included
pub record Span : Type 0 where
  pub lower : Point
  pub upper : Point
  pub line : Line

-- one point comes before another or is the same, in point order
abbrev pub IsAtMost : Point → Point → Type 0
IsAtMost p q = is_le (point_cmp p q) ≡ true

-- the point is on the line, and not before the lower end and not after the upper end
pub record LiesOn (s : Span) (p : Point) : Type 0 where
  pub on : IsOn s.line p
  pub from : IsAtMost s.lower p
  pub upto : IsAtMost p s.upper

-- two points of a line, in order
pub record AreOnWay (lower upper : Point) (line : Line) : Type 0 where
  pub ascending : point_cmp lower upper ≡ Less
  pub lower_on : IsOn line lower
  pub upper_on : IsOn line upper

-- whether they are
abbrev pub are_on_way : Point → Point → Line → Bool
are_on_way lower upper line = is_lt (point_cmp lower upper) && (int_eq (side_of line lower) (pos 0) && int_eq (side_of line upper) (pos 0))

-- two points and a line that are a span's
pub record IsSpan (s : Span) : Type 0 where
  pub lower : IsPoint s.lower
  pub upper : IsPoint s.upper
  pub line : IsLine s.line
  pub way : AreOnWay s.lower s.upper s.line

-- the span of a whole segment
abbrev pub span_of_segment : Segment → Span
span_of_segment s = record { lower = s.lower; upper = s.upper; line = line_of_segment s }
