-- What a search of a face's boundary for meeting points has found.
use Rattle.std.specs.Prelude.{◌≡◌, ◌⊎◌, ◌<◌, ◌&&◌, Bool, not, true, false, List, Contains, Option, Some, None, ⊤}
use Rattle.std.specs.Map.{keys_of}
use Rattle.exact_plane.specs.Line.{Line}
use Rattle.exact_plane.specs.Point.{Point}
use Rattle.exact_plane.specs.declared.meets.Meet.{Meet}
use Rattle.exact_plane.specs.declared.meets.Meet.TheVariants.{Apart, At, Along}
use Rattle.exact_plane.specs.Segment.{Segment, AreEnds, line_of_segment}
use Rattle.exact_plane.specs.Span.{IsSpan, span_of_segment}
use Rattle.exact_plane.specs.WholeParts.{bounding_box}
use Rattle.plane_graphs.specs.Ascending.{Member}
use Rattle.plane_graphs.specs.Line.{precedes, is_on}
use Rattle.slab_laws.specs.declared.names.DartId.{DartId}
use Rattle.slab_laws.specs.declared.names.FaceId.{FaceId}
use Rattle.slab_laws.specs.Skeleton.{inside}
use Rattle.slab_laws.specs.Sound.{edge_in, IsGraphSound}
use Rattle.slab_laws.specs.View.{View, Faces, HasDart, point_in, source_in, twin_in, target_in, line_in}
use Rattle.arr_notes.specs.Curves.{IsForward}
use Rattle.counted_looks.specs.Boundaries.{IsOnBoundary}
use Rattle.counted_looks.specs.declared.boundary_part.BoundaryPart.{BoundaryPart}
use Rattle.counted_looks.specs.declared.boundary_part.BoundaryPart.TheVariants.{Dart, Isolated}
use Rattle.dcel_records.specs.declared.spot.Spot.{Spot}
use Rattle.dcel_records.specs.declared.spot.Spot.TheVariants.{Vertex, Edge, Face}
use Rattle.dcel_records.specs.Spots.{IsMet, met_of}
use Rattle.zone_walk.specs.FoundPoints.{entries_in}
use Rattle.zone_walk.specs.Zone.{meeting_points, are_one}
use Rattle.zone_walk.specs.declared.search.Search.{Search}

-- no point is lost (this project)
abbrev pub AreKept : List (Point × Spot) → List (Point × Spot) → Type 0
AreKept old new = (p : Point) → Member p (keys_of old) → Member p (keys_of new)

-- the point is inside the edge of the dart, or one of its ends
abbrev pub IsOnEdge : View → DartId → Point → Type 0
IsOnEdge v d p = (p ≡ point_in v (source_in v d)) ⊎ ((p ≡ point_in v (target_in v d)) ⊎ (inside (edge_in v d) p ≡ true))

-- the vertex at the point, or the edge that has it inside
abbrev pub IsThere : View → Point → Spot → Type 0
IsThere v p (Vertex w) = IsMet v p (met_of (Vertex w))
IsThere v p (Edge d) = IsMet v p (met_of (Edge d))
IsThere v p (Face a) = ⊥

-- a meeting point after another one, with the vertex or edge that it meets (this project)
pub record IsFoundAfter (v : View) (s : Segment) (here p : Point) (spot : Spot) : Type 0 where
  pub meets : Contains (meeting_points v s) p
  pub later : precedes here p ≡ true
  pub there : IsThere v p spot

-- each that is found is such a point (this project)
abbrev pub AreFoundAfter : View → Segment → Point → List (Point × Spot) → Type 0
AreFoundAfter v s here es = (p : Point) (spot : Spot) → Member (p, spot) es → IsFoundAfter v s here p spot

-- the edge of the forward dart d leads along the segment to the point: it begins before it, and doesn't end before it (this project)
pub record LeadsTo (v : View) (s : Segment) (p : Point) (d : DartId) : Type 0 where
  pub forward : IsForward v d
  pub line : line_in v d ≡ line_of_segment s
  pub begins : precedes (point_in v (source_in v d)) p ≡ true
  pub ends : precedes (point_in v (target_in v d)) p ≡ false

-- an edge leads along the segment to the point, so that the walk comes to it along this edge (this project)
abbrev pub IsLedTo : View → Segment → Point → Type 0
IsLedTo v s p = (d : DartId) × LeadsTo v s p d

-- the point is found, if it is a meeting point after another one, and no edge leads along the segment to it (this project)
abbrev pub IsTaken : View → Segment → Point → List (Point × Spot) → Point → Type 0
IsTaken v s here es p = Contains (meeting_points v s) p → precedes here p ≡ true → Member p (keys_of es) ⊎ IsLedTo v s p

-- the later meeting points on the edge of a dart or at a vertex are found, but for those to which an edge leads (this project)
abbrev pub IsPartTaken : View → Segment → Point → List (Point × Spot) → BoundaryPart → Type 0
IsPartTaken v s here es (Dart d) = (p : Point) → IsOnEdge v d p → IsTaken v s here es p
IsPartTaken v s here es (Isolated w) = IsTaken v s here es (point_in v w)

-- the point, or the ends of the part, that is common
abbrev pub points_of_meet : Meet → Option Point × Option Point
points_of_meet Apart = (None, None)
points_of_meet (At p) = (Some p, None)
points_of_meet (Along p q) = (Some p, Some q)

-- both are searches from one point of one segment, and have visited the same faces; what failed stays so (this project)
pub record IsOneSearch (k l : Search) : Type 0 where
  pub segment : l.segment ≡ k.segment
  pub here : l.here ≡ k.here
  pub visited : l.visited ≡ k.visited
  pub whole : l.whole ≡ k.whole
  pub bounds : l.bounds ≡ k.bounds
  pub failed : l.failed ≡ false → k.failed ≡ false

-- where all meeting points on edges were gathered, the later ones are found (this project)
abbrev pub AreGathered : View → Search → Type 0
AreGathered v l = l.gathered ≡ true → (d : DartId) → HasDart v d → IsPartTaken v l.segment l.here (entries_in l.found) (Dart d)

-- the search l has gone on from k in a sound view: it stands at a meeting point, and has found what k had, and later meeting points alone, all those on edges where they were gathered (this project)
pub record IsSearchFrom (v : View) (k l : Search) : Type 0 where
  pub one : IsOneSearch k l
  pub sound : IsGraphSound v
  pub ends : AreEnds l.segment
  pub whole : IsSpan (span_of_segment l.segment)
  pub spanned : l.whole ≡ span_of_segment l.segment
  pub boxed : l.bounds ≡ bounding_box l.whole
  pub stands : Contains (meeting_points v l.segment) l.here
  pub found : AreFoundAfter v l.segment l.here (entries_in l.found)
  pub kept : AreKept (entries_in k.found) (entries_in l.found)
  pub gathered : AreGathered v l

-- unless memory was wanting, the later meeting points on the part of the boundary are found (this project)
abbrev pub HasSeen : View → Search → BoundaryPart → Type 0
HasSeen v l t = l.failed ≡ false → IsPartTaken v l.segment l.here (entries_in l.found) t

-- whether the line passes through the point where the search stands, and isn't the segment's own (this project)
abbrev pub passes_here : Line → Search → Bool
passes_here l k = is_on l k.here && not (are_one l k.whole.line)

-- no later meeting point of the segment is on the edge of the dart, where there is one (this project)
abbrev pub IsBehind : View → Segment → Point → Option DartId → Type 0
IsBehind v s here None = ⊤
IsBehind v s here (Some d) = (p : Point) → IsOnEdge v d p → Contains (meeting_points v s) p → precedes here p ≡ true → ⊥

-- ---- visits
-- the dart's twin is on the boundary of the face too, and has the lesser name of the two (this project)
pub record IsPassed (v : View) (f : Faces) (a : FaceId) (d : DartId) : Type 0 where
  pub twin : IsOnBoundary v f a (Dart (twin_in v d))
  pub lesser : (twin_in v d).0 < d.0

-- the part of the boundary was looked at, or is a dart of which the twin is looked at (this project)
abbrev pub HasLooked : View → Faces → FaceId → Search → BoundaryPart → Type 0
HasLooked v f a l (Dart d) = HasSeen v l (Dart d) ⊎ IsPassed v f a d
HasLooked v f a l (Isolated w) = HasSeen v l (Isolated w)

-- a visit of the face a, with the search l, has gone on from one of the face b with the search k; the segment came in by the edge of e, if there is such a dart, and leaves it behind (this project)
pub record IsVisitFrom (v : View) (known : View) (g f : Faces) (b a : FaceId) (e : Option DartId) (k l : Search) : Type 0 where
  pub graph : known ≡ v
  pub faces : f ≡ g
  pub face : a ≡ b
  pub behind : IsBehind v k.segment k.here e
  pub search : IsSearchFrom v k l
