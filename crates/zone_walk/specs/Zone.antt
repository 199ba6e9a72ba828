-- What a new segment meets of a graph, and the plan of its insertion.
use Rattle.std.specs.Prelude.{◌≡◌, ◌≤◌, ◌+◌, ◌*◌, ◌&&◌, ◌||◌, nat_lt, ◌++◌, ◌∷◌, ℕ, List, [], map, length, cond, not, Bool, true, false, Contains, ⊤}
use Rattle.std.specs.List.{filter, flat_map, count_by}
use Rattle.exact_plane.specs.Point.{Point}
use Rattle.std.specs.Ordering.{is_eq, int_eq}
use Rattle.exact_plane.specs.Line.{Line}
use Rattle.exact_plane.specs.PointOrder.{point_cmp}
use Rattle.exact_plane.specs.Segment.{Segment, line_of_segment}
use Rattle.plane_graphs.specs.Ascending.{ascending}
use Rattle.plane_graphs.specs.Line.{IsProper, precedes, is_on, are_parallel, crossing}
use Rattle.slab_laws.specs.declared.names.DartId.{DartId}
use Rattle.slab_laws.specs.declared.names.FaceId.{FaceId}
use Rattle.slab_laws.specs.Skeleton.{inside}
use Rattle.slab_laws.specs.Sound.{points_of, edge_in}
use Rattle.slab_laws.specs.View.{View, Faces, dart_id, point_in, source_in, target_in, line_in}
use Rattle.arr_notes.specs.Curves.{IsForward, is_forward}
use Rattle.arr_notes.specs.CycleNames.{dart_names}
use Rattle.counted_looks.specs.Boundaries.{boundary_size}
use Rattle.dcel_records.specs.declared.spot.Met.{Met}
use Rattle.dcel_records.specs.declared.spot.Met.TheVariants as met
use Rattle.dcel_records.specs.declared.spot.Spot.{Spot}
use Rattle.dcel_records.specs.declared.spot.Spot.TheVariants.{Edge, Face}
use Rattle.dcel_records.specs.Spots.{IsMet, met_of}
use Rattle.face_location.specs.Spots.{IsSpotOf}
use Rattle.zone_walk.specs.declared.plan.Meeting.{Meeting}
use Rattle.zone_walk.specs.declared.plan.ZonePlan.{ZonePlan}

-- the point lies on the segment
abbrev pub is_on_segment : Segment → Point → Bool
is_on_segment s p = is_on (line_of_segment s) p && (not (precedes p s.lower) && not (precedes s.upper p))

-- where the segment passes through the inside of an edge of another line
abbrev pub passes : View → Segment → DartId → List Point
passes v s d =
    let r : Point = crossing (line_of_segment s) (line_in v d) in
    cond (are_parallel (line_of_segment s) (line_in v d)) [] (cond (is_on_segment s r && inside (edge_in v d) r) (r ∷ []) [])

-- the meeting points of a segment and a graph: its ends, the vertices on it, and the points where it passes through an edge of another line, ascending (Fogel, Halperin and Wein: the zone of a curve)
unfoldable pub meeting_points : View → Segment → List Point
meeting_points v s = ascending point_cmp (s.lower ∷ s.upper ∷ filter (is_on_segment s) (points_of v) ++ flat_map (λ r. passes v s (dart_id r.0)) v.darts)

-- every point of the segment strictly between two meets this (this project)
abbrev pub IsMetBetween : View → Segment → Point → Point → Met → Type 0
IsMetBetween v s p q at = (t : Point) → IsProper t → is_on_segment s t ≡ true → precedes p t ≡ true → precedes t q ≡ true → IsMet v t at

-- every point of the segment strictly between two lies at this spot (this project)
abbrev pub IsSpotBetween : View → Faces → Segment → Point → Point → Spot → Type 0
IsSpotBetween v f s p q spot = (t : Point) → IsProper t → is_on_segment s t ≡ true → precedes p t ≡ true → precedes t q ≡ true → IsSpotOf v f t spot

-- each is the spot of the open part between a point and the next one (this project)
abbrev pub AreSpotsBetween : View → Faces → Segment → List Point → List Spot → Type 0
AreSpotsBetween v f s (p ∷ q ∷ ps) (spot ∷ parts) = IsSpotBetween v f s p q spot × AreSpotsBetween v f s (q ∷ ps) parts
AreSpotsBetween v f s (p ∷ []) [] = ⊤
AreSpotsBetween v f s ps parts = ⊥

-- the edge of a forward dart has more than one point of the segment (CGAL manual, overlapping curves)
pub record IsOverlapped (v : View) (s : Segment) (d : DartId) : Type 0 where
  pub forward : IsForward v d
  pub line : line_in v d ≡ line_of_segment s
  pub begins : precedes (point_in v (source_in v d)) s.upper ≡ true
  pub ends : precedes s.lower (point_in v (target_in v d)) ≡ true

abbrev pub is_vertex : Met → Bool
is_vertex (met.Vertex w) = true
is_vertex other = false

abbrev pub is_edge : Met → Bool
is_edge (met.Edge d) = true
is_edge other = false

-- how many vertices the steps of the insertion make: one for each meeting point that is none
abbrev pub vertices_needed : List Meeting → ℕ
vertices_needed ms = count_by (λ m. not (is_vertex (met_of m.spot))) ms

-- how many of the meeting points are inside edges, which are split there
abbrev pub splits_needed : List Meeting → ℕ
splits_needed ms = count_by (λ m. is_edge (met_of m.spot)) ms

-- how many edges they make at most: one for each edge that is split, and one for each open part
abbrev pub edges_needed : List Meeting → List Spot → ℕ
edges_needed ms parts = splits_needed ms + length parts

-- the edges among the spots, by their darts
abbrev pub darts_among : List Spot → List DartId
darts_among [] = []
darts_among (Edge d ∷ parts) = d ∷ darts_among parts
darts_among (other ∷ parts) = darts_among parts

-- the edge of the spot, by its dart; none where it is none (this project)
abbrev pub dart_of_spot : Spot → List DartId
dart_of_spot spot = darts_among (spot ∷ [])

-- the plan of an insertion: the meeting points in order, each with its spot, the spots of the open parts between them, the edges that are overlapped, each once, and the room in which all steps fit, where each new edge may part a cycle and a face (Fogel, Halperin and Wein: insertion by the zone)
pub record IsZoneOf (v : View) (f : Faces) (s : Segment) (z : ZonePlan) : Type 0 where
  pub points : map (λ m. m.point) z.vertices ≡ meeting_points v s
  pub spots : (m : Meeting) → Contains z.vertices m → IsSpotOf v f m.point m.spot
  pub between : AreSpotsBetween v f s (meeting_points v s) z.between
  pub listed : z.overlapped ≡ darts_among z.between
  pub overlapped : (d : DartId) → Contains z.overlapped d → IsOverlapped v s d
  pub all_overlapped : (d : DartId) → IsOverlapped v s d → Contains z.overlapped d
  pub vertices : z.room.vertices ≡ vertices_needed z.vertices
  pub edges : z.room.edges ≡ edges_needed z.vertices z.between
  pub cycles : z.room.cycles ≡ length z.between
  pub faces : z.room.faces ≡ length z.between
  pub vertices_fit : z.room.vertices ≤ 2 * length (meeting_points v s)
  pub edges_fit : z.room.edges ≤ 2 * length (meeting_points v s)

-- the meeting points after one, in order (this project)
abbrev pub later_points : View → Segment → Point → List Point
later_points v s p = filter (precedes p) (meeting_points v s)

-- the first of the meeting points after one (this project)
pub record IsNextMeeting (v : View) (s : Segment) (p q : Point) : Type 0 where
  pub meets : Contains (meeting_points v s) q
  pub later : precedes p q ≡ true
  pub none_between : (r : Point) → Contains (meeting_points v s) r → precedes p r ≡ true → precedes r q ≡ false

-- the points of meetings
abbrev pub points_of_meetings : List Meeting → List Point
points_of_meetings ms = map (λ m. m.point) ms

-- ---- how many looks a zone takes
-- how many darts leave the vertex at the point (CGAL manual, degree)
abbrev pub degree_at : View → Point → ℕ
degree_at v p = count_by (λ d. is_eq (point_cmp (point_in v (source_in v d)) p)) (dart_names v)

abbrev pub are_one : Line → Line → Bool
are_one l m = int_eq l.a m.a && (int_eq l.b m.b && int_eq l.c m.c)

-- the edge of a forward dart has a point of the segment other than its ends: it has one inside, or is overlapped
abbrev pub has_point : View → Segment → DartId → Bool
has_point v s d =
    is_forward v d && (nat_lt 0 (length (passes v s d)) || (are_one (line_of_segment s) (line_in v d) && (precedes (point_in v (source_in v d)) s.upper && precedes s.lower (point_in v (target_in v d)))))

-- how many open edges have a point of the segment (this project)
abbrev pub edges_met : View → Segment → ℕ
edges_met v s = count_by (has_point v s) (dart_names v)

-- n is no less than the sum over the visits of the darts and isolated vertices on the boundaries of the visited faces; a visit is an open part between neighbouring meeting points that lies in a face (de Berg and others, complexity of a zone)
abbrev pub CoversVisits : View → Faces → Segment → List Point → ℕ → Type 0
CoversVisits v f s (p ∷ q ∷ ps) n = (k : ℕ) × (m : ℕ) × ((a : FaceId) → IsSpotBetween v f s p q (Face a) → boundary_size v f a ≤ k) × CoversVisits v f s (q ∷ ps) m × (k + m ≤ n)
CoversVisits v f s ps n = ⊤
