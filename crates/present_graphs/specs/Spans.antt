-- The spans of pieces.
use Rattle.std.specs.Prelude.{List, Bool, ◌&&◌}
use Rattle.std.specs.Ordering.{is_le}
use Rattle.exact_plane.specs.Point.{Point}
use Rattle.exact_plane.specs.PointOrder.{point_cmp}
use Rattle.exact_plane.specs.Segment.{line_of_segment}
use Rattle.exact_plane.specs.Span.{Span, IsSpan}
use Rattle.plane_graphs.specs.Ascending.{Member}
use Rattle.plane_graphs.specs.Fit.{IsFitPiece}
use Rattle.plane_graphs.specs.Line.{is_on}
use Rattle.plane_graphs.specs.Piece.{Piece}

-- the part of its line that a piece covers
abbrev pub span_of_piece : Piece → Span
span_of_piece k = record { lower = k.from; upper = k.to; line = line_of_segment k.segment }

-- the point is on the line of the span, and neither before its lower end nor after its upper end
abbrev pub lies_on : Span → Point → Bool
lies_on s p = (is_on s.line p && is_le (point_cmp s.lower p)) && is_le (point_cmp p s.upper)

-- each of the pieces lies on its segment
abbrev pub AreFit : List Piece → Type 0
AreFit ks = (k : Piece) → Member k ks → IsFitPiece k

-- each has the numbers of a span
abbrev pub AreSpans : List Span → Type 0
AreSpans ss = (s : Span) → Member s ss → IsSpan s
