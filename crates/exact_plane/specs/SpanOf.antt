-- What two points and a line make.
use Rattle.std.specs.Prelude.{Option, Some, None, if◌then◌else◌}
use Rattle.exact_plane.specs.Line.{Line}
use Rattle.exact_plane.specs.Point.{Point}
use Rattle.exact_plane.specs.Span.{Span, are_on_way}

abbrev pub span_of : Point → Point → Line → Option Span
span_of lower upper line = if are_on_way lower upper line then Some (record { lower = lower; upper = upper; line = line }) else None
