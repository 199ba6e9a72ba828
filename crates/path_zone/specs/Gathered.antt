-- Meetings that are gathered, side by side.
use Rattle.std.specs.Prelude.{◌≡◌, ◌⊎◌, true, List, Option, Some, None}
use Rattle.exact_plane.specs.Point.{Point}
use Rattle.exact_plane.specs.Segment.{Segment, AreEnds}
use Rattle.plane_graphs.specs.Ascending.{Member}
use Rattle.plane_graphs.specs.Line.{IsProper}
use Rattle.slab_laws.specs.View.{View, Faces}
use Rattle.dcel_records.specs.declared.spot.Spot.{Spot}
use Rattle.face_location.specs.Spots.{IsSpotOf}
use Rattle.zone_walk.specs.declared.plan.Meeting.{Meeting}
use Rattle.zone_walk.specs.declared.plan.ZonePlan.{ZonePlan}
use Rattle.zone_walk.specs.Zone.{is_on_segment, points_of_meetings, IsZoneOf}
use Rattle.path_zone.specs.PathZone.{IsWhereSideMeets, IsWhereSidesMeet}

-- ---- a point of a side, by the side's zone
-- the point is on a side that has this zone (this project)
pub record IsOnZoned (v : View) (f : Faces) (s : Segment) (z : ZonePlan) (x : Point) : Type 0 where
  pub zone : IsZoneOf v f s z
  pub ends : AreEnds s
  pub proper : IsProper x
  pub on : is_on_segment s x ≡ true

-- the point lies at the spot, within an open part; none where it is one of the zone's vertices (this project)
abbrev pub IsSpotWithin : View → Faces → ZonePlan → Point → Option Spot → Type 0
IsSpotWithin v f z x None = Member x (points_of_meetings z.vertices)
IsSpotWithin v f z x (Some spot) = IsSpotOf v f x spot × ¬ Member x (points_of_meetings z.vertices)

-- ---- lists of meetings
-- the spot is where the meeting's point lies, and there a side meets the graph or two sides meet (this project)
pub record IsPathMeeting (v : View) (f : Faces) (ss : List Segment) (m : Meeting) : Type 0 where
  pub spot : IsSpotOf v f m.point m.spot
  pub place : IsWhereSideMeets v ss m.point ⊎ IsWhereSidesMeet ss m.point

-- to the old meetings some of these sides came, and none went (this project)
pub record HasMore (v : View) (f : Faces) (ss : List Segment) (old new : List Meeting) : Type 0 where
  pub kept : (m : Meeting) → Member m old → Member m new
  pub came : (m : Meeting) → Member m new → Member m old ⊎ IsPathMeeting v f ss m

-- the point is one of the meetings' points
abbrev pub HasPoint : List Meeting → Point → Type 0
HasPoint ms x = Member x (points_of_meetings ms)
