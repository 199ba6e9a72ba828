-- What the walk along a segment knows at a meeting point.
use Rattle.std.specs.Prelude.{◌≡◌, ◌+◌, ◌&&◌, ◌||◌, ℕ, Bool, true, false, cond}
use Rattle.std.specs.List.{count_by}
use Rattle.std.specs.BTreeSet.{contains}
use Rattle.std.specs.Ordering.{is_eq, nat_cmp}
use Rattle.exact_plane.specs.PointOrder.{point_cmp}
use Rattle.exact_plane.specs.Line.{Line}
use Rattle.exact_plane.specs.Point.{Point}
use Rattle.exact_plane.specs.Segment.{Segment, line_of_segment}
use Rattle.plane_graphs.specs.Line.{precedes}
use Rattle.slab_laws.specs.declared.names.DartId.{DartId}
use Rattle.slab_laws.specs.View.{View, Faces, point_in, source_in, target_in, line_in}
use Rattle.arr_notes.specs.Curves.{IsForward, is_forward}
use Rattle.arr_notes.specs.CycleNames.{dart_names}
use Rattle.dcel_records.specs.declared.spot.Met.{Met}
use Rattle.dcel_records.specs.declared.spot.Met.TheVariants.{Vertex, Edge, Nothing}
use Rattle.slab_laws.specs.declared.names.FaceId.{FaceId}
use Rattle.slab_laws.specs.Skeleton.{inside}
use Rattle.slab_laws.specs.Sound.{edge_in}
use Rattle.dcel_records.specs.declared.spot.Spot.{Spot}
use Rattle.dcel_records.specs.declared.spot.Spot.TheVariants as spot
use Rattle.dcel_records.specs.Spots.{met_of}
use Rattle.zone_walk.specs.FoundPoints.{entries_in}
use Rattle.zone_walk.specs.Parts.{TellsFace}
use Rattle.counted_looks.specs.Boundaries.{IsOnBoundary}
use Rattle.counted_looks.specs.declared.boundary_part.BoundaryPart.{BoundaryPart}
use Rattle.zone_walk.specs.Searches.{IsSearchFrom, IsPartTaken}
use Rattle.zone_walk.specs.Zone.{IsMetBetween, IsSpotBetween, IsNextMeeting, are_one, degree_at}
use Rattle.zone_walk.specs.declared.search.Search.{Search}
use Rattle.zone_walk.specs.declared.plan.Meeting.{Meeting}
use Rattle.face_location.specs.Spots.{IsSpotOf}

-- the forward dart d lies on the line, and its edge goes on from the point: this is not before its lower end, and before its upper end (this project)
pub record IsAhead (v : View) (l : Line) (p : Point) (d : DartId) : Type 0 where
  pub forward : IsForward v d
  pub line : line_in v d ≡ l
  pub begins : precedes p (point_in v (source_in v d)) ≡ false
  pub ends : precedes p (point_in v (target_in v d)) ≡ true

-- what follows the point on the line: the edge that goes on from there, and nothing where none does (this project)
abbrev pub IsMetAhead : View → Line → Point → Met → Type 0
IsMetAhead v l p (Edge d) = IsAhead v l p d
IsMetAhead v l p Nothing = (d : DartId) → ¬ IsAhead v l p d
IsMetAhead v l p (Vertex w) = ⊥

-- the lesser of two points
abbrev pub lesser : Point → Point → Point
lesser p q = cond (precedes p q) p q

-- from the meeting point p the segment goes on to the next one, q, and all points between meet this (this project)
pub record IsStretch (v : View) (s : Segment) (p : Point) (met : Met) (q : Point) : Type 0 where
  pub ahead : IsMetAhead v (line_of_segment s) p met
  pub next : IsNextMeeting v s p q
  pub between : IsMetBetween v s p q met

-- the same, with the name of the face where they lie in one (this project)
pub record IsSpotStretch (v : View) (f : Faces) (s : Segment) (p : Point) (spot : Spot) (q : Point) : Type 0 where
  pub stretch : IsStretch v s p (met_of spot) q
  pub spots : IsSpotBetween v f s p q spot

-- what follows the point on the segment: the edge that goes on from there, with its upper end, or the face that the segment enters (this project)
abbrev pub IsPartAhead : View → Faces → Segment → Point → Spot → Point → Type 0
IsPartAhead v f s p (spot.Edge d) end = IsAhead v (line_of_segment s) p d × (end ≡ point_in v (target_in v d))
IsPartAhead v f s p (spot.Face a) end = ((d : DartId) → ¬ IsAhead v (line_of_segment s) p d) × TellsFace v f p s.upper a
IsPartAhead v f s p (spot.Vertex w) end = ⊥

-- the edge of a forward dart has the point inside, or goes on from it along the segment
abbrev pub goes_on : View → Segment → Point → DartId → Bool
goes_on v s p d = is_forward v d && (inside (edge_in v d) p || (are_one (line_of_segment s) (line_in v d) && (is_eq (point_cmp (point_in v (source_in v d)) p) && precedes p s.upper)))

-- how many looks the walk takes at most to tell what follows a meeting point: the degree of a vertex, and one for an edge
abbrev pub stop_looks : View → Segment → Point → ℕ
stop_looks v s p = degree_at v p + count_by (goes_on v s p) (dart_names v)

-- the face's boundary was looked at
abbrev pub has_visited : Search → FaceId → Bool
has_visited l a = contains nat_cmp l.visited a.0

-- the search stands at a point of the segment: it has found all later meeting points on the boundaries of the faces that it visited (this project)
pub record IsSearchAt (v : View) (f : Faces) (s : Segment) (p : Point) (l : Search) : Type 0 where
  pub search : IsSearchFrom v l l
  pub segment : l.segment ≡ s
  pub here : l.here ≡ p
  pub visited : (a : FaceId) → has_visited l a ≡ true → (t : BoundaryPart) → IsOnBoundary v f a t → IsPartTaken v s p (entries_in l.found) t

-- a visit that knows this graph and these faces, whose search stands at a point of the segment (this project)
pub record IsVisitAt (v : View) (f : Faces) (known : View) (g : Faces) (s : Segment) (p : Point) (l : Search) : Type 0 where
  pub graph : known ≡ v
  pub faces : g ≡ f
  pub search : IsSearchAt v f s p l

-- the part and the next meeting point, at which the search stands then (this project)
pub record IsNextOf (v : View) (f : Faces) (s : Segment) (p : Point) (part : Spot) (next : Meeting) (l : Search) : Type 0 where
  pub stretch : IsSpotStretch v f s p part next.point
  pub spot : IsSpotOf v f next.point next.spot
  pub search : IsSearchAt v f s next.point l
