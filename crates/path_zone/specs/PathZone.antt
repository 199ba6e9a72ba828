-- What the sides of a path meet of a graph, and where they meet one another.
use Rattle.std.specs.Prelude.{◌≡◌, ◌⊎◌, ◌≤◌, ◌+◌, ◌*◌, ◌&&◌, ⊤, ℕ, Bool, true, false, List, [], ◌∷◌, Contains}
use Rattle.std.specs.List.{list_any, sum_by}
use Rattle.exact_plane.specs.Point.{Point}
use Rattle.exact_plane.specs.PointOrder.{point_cmp}
use Rattle.exact_plane.specs.Segment.{Segment, line_of_segment}
use Rattle.plane_graphs.specs.Ascending.{Member, IsAscending}
use Rattle.plane_graphs.specs.Line.{are_parallel, crossing, precedes}
use Rattle.slab_laws.specs.View.{View, Faces}
use Rattle.dcel_records.specs.declared.spot.Spot.{Spot}
use Rattle.face_location.specs.Spots.{IsSpotOf}
use Rattle.zone_walk.specs.declared.plan.Meeting.{Meeting}
use Rattle.zone_walk.specs.Zone.{is_on_segment, meeting_points, points_of_meetings, degree_at, edges_met, CoversVisits}
use Rattle.path_zone.specs.Plan.{PathPlan}

-- the segment has the point behind its lower end
abbrev pub has_behind : Segment → Point → Bool
has_behind s p = precedes s.lower p && is_on_segment s p

-- the side begins on one of the sides behind that one's lower end (this project)
abbrev pub is_begun : List Segment → Segment → Bool
is_begun ss s = list_any (λ t. has_behind t s.lower) ss

-- there are as many spots as sides, and each is where its side's lower end lies, unless the side begins on one of all behind that one's lower end (this project)
abbrev pub AreStartsAmong : View → Faces → List Segment → List Segment → List Spot → Type 0
AreStartsAmong v f all [] [] = ⊤
AreStartsAmong v f all (s ∷ ss) (spot ∷ spots) = (is_begun all s ≡ false → IsSpotOf v f s.lower spot) × AreStartsAmong v f all ss spots
AreStartsAmong v f all ss spots = ⊥

-- there are as many spots as sides, and each is where its side's lower end lies, where no other side begins before it and has that point (this project)
abbrev pub AreStarts : View → Faces → List Segment → List Spot → Type 0
AreStarts v f ss starts = AreStartsAmong v f ss ss starts

-- two sides whose lines aren't parallel, and the point on both (CGAL manual, intersections of x-monotone curves)
pub record IsCrossing (s t : Segment) (x : Point) : Type 0 where
  pub apart : are_parallel (line_of_segment s) (line_of_segment t) ≡ false
  pub point : x ≡ crossing (line_of_segment s) (line_of_segment t)
  pub on_first : is_on_segment s x ≡ true
  pub on_second : is_on_segment t x ≡ true

-- the point is where two of the sides meet, whose lines aren't parallel (this project)
pub record IsWhereSidesMeet (ss : List Segment) (x : Point) : Type 0 where
  pub one : Segment
  pub other : Segment
  pub one_in : Member one ss
  pub other_in : Member other ss
  pub crossing : IsCrossing one other x

-- the point is where one of the sides meets the graph (Fogel, Halperin and Wein: the zone of a curve)
pub record IsWhereSideMeets (v : View) (ss : List Segment) (x : Point) : Type 0 where
  pub side : Segment
  pub side_in : Member side ss
  pub meets : Member x (meeting_points v side)

-- the plan of an insertion of sides: the meeting points of each side with the graph and of the sides with one another, ascending, each once, with its spot before the insertion (this project)
pub record IsPathZone (v : View) (f : Faces) (ss : List Segment) (z : PathPlan) : Type 0 where
  pub ascend : IsAscending point_cmp (points_of_meetings z.vertices)
  pub spots : (m : Meeting) → Contains z.vertices m → IsSpotOf v f m.point m.spot
  pub only : (x : Point) → Member x (points_of_meetings z.vertices) → IsWhereSideMeets v ss x ⊎ IsWhereSidesMeet ss x
  pub each : (s : Segment) (x : Point) → Member s ss → Member x (meeting_points v s) → Member x (points_of_meetings z.vertices)
  pub own : (x : Point) → IsWhereSidesMeet ss x → Member x (points_of_meetings z.vertices)

-- ---- how many looks the zones of the sides take
-- n is no less than what covers the visits of each side, added up (de Berg and others, complexity of a zone)
abbrev pub CoverAllVisits : View → Faces → List Segment → ℕ → Type 0
CoverAllVisits v f [] n = ⊤
CoverAllVisits v f (s ∷ ss) n = (k : ℕ) × (m : ℕ) × CoversVisits v f s (meeting_points v s) k × CoverAllVisits v f ss m × (k + m ≤ n)

-- how many looks the zone of a side takes at most beside those at the faces that it visits (this project)
abbrev pub looks_along : View → Segment → ℕ
looks_along v s = sum_by (degree_at v) (meeting_points v s) + 2 * edges_met v s
