-- The least of points that come one after the other.
use Rattle.std.specs.Prelude.{Bool, cond, Option, Some, None}
use Rattle.exact_plane.specs.Point.{Point}
use Rattle.plane_graphs.specs.Line.{precedes}

-- the lesser of the least point so far and one more
abbrev pub lesser_of : Option Point → Point → Point
lesser_of None q = q
lesser_of (Some p) q = cond (precedes p q) p q
