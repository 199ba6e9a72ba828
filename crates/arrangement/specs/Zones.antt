-- What a segment meets of an arrangement, with nothing inserted.
use Rattle.std.specs.Prelude.{◌≡◌, Bool, true, false, ℕ, map, Contains}
use Rattle.exact_plane.specs.Point.{Point}
use Rattle.exact_plane.specs.Segment.{Segment}
use Rattle.plane_graphs.specs.Line.{IsProper}
use Rattle.slab_laws.specs.declared.cell.Cell.TheVariants.{Face}
use Rattle.slab_laws.specs.Subdivision.{holds}
use Rattle.dcel_records.specs.declared.spot.Spot.{Spot}
use Rattle.dcel_records.specs.declared.spot.Spot.TheVariants as spot
use Rattle.face_location.specs.Spots.{IsSpotOf}
use Rattle.zone_walk.specs.declared.plan.Meeting.{Meeting}
use Rattle.zone_walk.specs.Zone.{is_on_segment, meeting_points, AreSpotsBetween}
use Rattle.arrangement.specs.declared.zones.Zone.{Zone}
use Rattle.arrangement.specs.Arranged.{Arranged, subdivision_by}
use Rattle.arrangement.specs.FaceNumbers.{IsInNoFace}

-- the segment's ends, the vertices on it and the points where it passes through an edge, ascending, each with what it lies in; and what lies between each two neighbours (Fogel, Halperin and Wein: the zone of a curve)
pub record IsZoneIn (a : Arranged) (s : Segment) (z : Zone) : Type 0 where
  pub points : map (λ m. m.point) z.meetings ≡ meeting_points a.graph s
  pub spots : (m : Meeting) → Contains z.meetings m → IsSpotOf a.graph a.faces m.point m.spot
  pub between : AreSpotsBetween a.graph a.faces s (meeting_points a.graph s) z.between

-- the point of the segment is a vertex, or lies on an edge
pub record IsMetAt (a : Arranged) (s : Segment) (p : Point) : Type 0 where
  pub proper : IsProper p
  pub on : is_on_segment s p ≡ true
  pub met : IsInNoFace a p

-- some point of the segment is a vertex, or lies on an edge (CGAL manual, `do_intersect`)
abbrev pub MeetsSome : Arranged → Segment → Type 0
MeetsSome a s = (p : Point) × IsMetAt a s p

-- each point of the segment, its ends included, lies in a face
abbrev pub MeetsNone : Arranged → Segment → Type 0
MeetsNone a s = (p : Point) → IsProper p → is_on_segment s p ≡ true → (n : ℕ) × (holds (subdivision_by a) p ≡ Face n)

-- the spot is at a vertex or on an edge
abbrev pub is_met : Spot → Bool
is_met (spot.Face f) = false
is_met other = true
