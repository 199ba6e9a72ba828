-- What a layer holds at a time: the pieces of its segments, and its pins.
use Rattle.std.specs.Prelude.{ℕ, List, Bool, not, ◌&&◌}
use Rattle.exact_plane.specs.Point.{Point}
use Rattle.plane_graphs.specs.Line.{is_on, precedes}
use Rattle.exact_plane.specs.Segment.{Segment, line_of_segment}

-- the part of a segment from one of its points to a later one; the segment is this side, from 1 to 8, of the curve with this number (this project; curves with history: CGAL manual)
pub record Piece : Type 0 where
  pub curve : ℕ
  pub side : ℕ
  pub segment : Segment
  pub from : Point
  pub to : Point

-- the pieces, and the pinned points, ascending (this project)
pub record Present : Type 0 where
  pub pieces : List Piece
  pub pins : List Point

-- p lies on the line of the piece
unfoldable pub along : Piece → Point → Bool
along k p = is_on (line_of_segment k.segment) p

-- p lies on the piece: on its line, and from one of its ends to the other
unfoldable pub on : Piece → Point → Bool
on k p = along k p && (not (precedes p k.from) && not (precedes k.to p))
