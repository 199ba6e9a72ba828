-- Where a segment passes through an edge, by spans.
use Rattle.std.specs.Prelude.{◌≡◌, true, Bool, [], ◌∷◌, pos}
use lib.Signed.{lt_z}
use Rattle.exact_plane.specs.Line.{Line, side_of}
use Rattle.exact_plane.specs.Meet.{IsOnlyCommon}
use Rattle.exact_plane.specs.Point.{Point}
use Rattle.exact_plane.specs.Segment.{Segment, line_of_segment}
use Rattle.exact_plane.specs.Span.{Span, IsSpan}
use Rattle.slab_laws.specs.declared.names.DartId.{DartId}
use Rattle.slab_laws.specs.SpansDrawn.{edge_of}
use Rattle.slab_laws.specs.Skeleton.{inside}
use Rattle.slab_laws.specs.View.{View}
use Rattle.zone_walk.specs.Zone.{passes}

-- the segment between the ends of a span
abbrev pub ends_of : Span → Segment
ends_of s = record { lower = s.lower; upper = s.upper }

-- the span is all of a segment
pub record IsWhole (s : Span) : Type 0 where
  pub span : IsSpan s
  pub line : s.line ≡ line_of_segment (ends_of s)

-- whether the point is strictly on the left of the line, or on its right
abbrev pub is_left : Line → Point → Bool
is_left l p = lt_z (pos 0) (side_of l p)

abbrev pub is_right : Line → Point → Bool
is_right l p = lt_z (side_of l p) (pos 0)

-- ---- one edge

-- the segment passes through the inside of the edge at p, and nowhere else (this project)
pub record IsPassAt (v : View) (s : Segment) (d : DartId) (p : Point) : Type 0 where
  pub one : passes v s d ≡ p ∷ []

-- the point lies on both spans, as no other does, and is inside the second one (this project)
pub record IsInnerMeeting (whole span : Span) (p : Point) : Type 0 where
  pub meeting : IsOnlyCommon whole span p
  pub inner : inside (edge_of span) p ≡ true
