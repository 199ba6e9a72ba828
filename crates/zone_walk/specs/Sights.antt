-- What a look at a dart or a vertex tells of it and of a segment, and how many darts a turn at a vertex looks at.
use Rattle.std.specs.Prelude.{◌≡◌, ℕ, ℤ, neg_ℤ, Bool, not, ◌&&◌, cond, true, false, ◌==◌, Option, Some, None}
use Rattle.std.specs.List.{count_by}
use Rattle.exact_plane.specs.Meet.{IsMeeting}
use Rattle.exact_plane.specs.Point.{Point}
use Rattle.exact_plane.specs.Segment.{Segment}
use Rattle.exact_plane.specs.Sign.{sign_of}
use Rattle.exact_plane.specs.Span.{Span, IsSpan, span_of_segment}
use Rattle.exact_plane.specs.declared.meets.Meet.{Meet}
use Rattle.exact_plane.specs.declared.meets.Meet.TheVariants.{Apart, At, Along}
use Rattle.exact_plane.specs.declared.sides.Sign.{Sign}
use Rattle.exact_plane.specs.declared.sides.Sign.TheVariants.{Minus, Zero, Plus}
use Rattle.plane_graphs.specs.Line.{precedes, is_on}
use Rattle.slab_laws.specs.declared.names.DartId.{DartId}
use Rattle.slab_laws.specs.declared.names.VertexId.{VertexId}
use Rattle.slab_laws.specs.Skeleton.{side}
use Rattle.slab_laws.specs.Sound.{edge_in, dart_in, IsGraphSound}
use Rattle.slab_laws.specs.View.{View, HasDart, point_in, source_in, target_in, line_in}
use Rattle.counted_looks.specs.Looks.{IsLookOf}
use Rattle.counted_looks.specs.declared.glance.Looked.{Looked}
use Rattle.arr_notes.specs.CycleNames.{dart_names}
use Rattle.dcel_records.specs.declared.spot.Spot.{Spot}
use Rattle.dcel_records.specs.declared.spot.Spot.TheVariants.{Vertex, Edge, Face}
use Rattle.zone_walk.specs.Zone.{is_on_segment}
use Rattle.zone_walk.specs.declared.edge_points.CommonPoints.{CommonPoints}
use Rattle.zone_walk.specs.declared.sight.Seen.{Seen}

-- the edge of a dart with its line, its ends included
abbrev pub span_in : View → DartId → Span
span_in v d = record { lower = (edge_in v d).low; upper = (edge_in v d).high; line = line_in v d }

-- a number that is positive for a point on the left of the dart, negative on its right (de Berg and others, halfedges)
abbrev pub side_from : View → DartId → Point → ℤ
side_from v d p = cond (dart_in v d).forward (side (edge_in v d) p) (neg_ℤ (side (edge_in v d) p))

-- the other side
abbrev pub other_side : Sign → Sign
other_side Minus = Plus
other_side Zero = Zero
other_side Plus = Minus

-- what is told of the dart: its two points, what its edge and ends have in common with the segment, and the side on which the segment's upper end is (this project)
pub record IsDartSeen (v : View) (s : Segment) (d : DartId) (seen : Seen) : Type 0 where
  pub source : seen.source ≡ point_in v (source_in v d)
  pub target : seen.target ≡ point_in v (target_in v d)
  pub side : seen.side ≡ sign_of (side_from v d s.upper)
  pub span : IsSpan (span_in v d)
  pub meet : IsMeeting (span_of_segment s) (span_in v d) seen.meet

-- what a point has in common with the segment: itself, or nothing
abbrev pub IsPointMeet : Segment → Point → Meet → Type 0
IsPointMeet s p Apart = is_on_segment s p ≡ false
IsPointMeet s p (At q) = (q ≡ p) × (is_on_segment s p ≡ true)
IsPointMeet s p (Along q r) = ⊥

-- what is told of the vertex: its point, twice, and whether the segment has it (this project)
pub record IsVertexSeen (v : View) (s : Segment) (w : VertexId) (seen : Seen) : Type 0 where
  pub source : seen.source ≡ point_in v w
  pub target : seen.target ≡ point_in v w
  pub side : seen.side ≡ Zero
  pub meet : IsPointMeet s (point_in v w) seen.meet

abbrev pub IsSeenOf : View → Segment → Spot → Seen → Type 0
IsSeenOf v s (Vertex w) seen = IsVertexSeen v s w seen
IsSeenOf v s (Edge d) seen = IsDartSeen v s d seen
IsSeenOf v s (Face a) seen = ⊥

-- ---- the points that are common
-- the point lies on the span
abbrev pub is_on_span : Span → Point → Bool
is_on_span s p = is_on s.line p && (not (precedes p s.lower) && not (precedes s.upper p))

-- one point, or the part between two
abbrev pub meet_between : Point → Option Point → Meet
meet_between p None = At p
meet_between p (Some q) = Along p q

-- the look is one at the dart, in a sound view (this project)
pub record IsSoundLook (v : View) (d : DartId) (l : Looked) : Type 0 where
  pub sound : IsGraphSound v
  pub has : HasDart v d
  pub look : IsLookOf v (Edge d) l

-- what the span and the dart's edge, with its ends, have in common, and the dart's two points (this project)
pub record IsDartMet (v : View) (s : Span) (d : DartId) (c : CommonPoints) : Type 0 where
  pub source : c.source ≡ point_in v (source_in v d)
  pub target : c.target ≡ point_in v (target_in v d)
  pub span : IsSpan (span_in v d)
  pub meet : IsMeeting s (span_in v d) (meet_between c.first c.last)

-- the points that the span has in common with the dart's edge, and nothing exactly where there are none (this project)
abbrev pub IsMetOf : View → Span → DartId → Option CommonPoints → Type 0
IsMetOf v s d None = IsSpan (span_in v d) × IsMeeting s (span_in v d) Apart
IsMetOf v s d (Some c) = IsDartMet v s d c

-- the vertex's point, and nothing exactly where it isn't on the span (this project)
abbrev pub IsVertexMet : View → Span → VertexId → Option Point → Type 0
IsVertexMet v s w None = is_on_span s (point_in v w) ≡ false
IsVertexMet v s w (Some p) = (p ≡ point_in v w) × (is_on_span s (point_in v w) ≡ true)

-- how many darts leave the vertex (CGAL manual, degree)
abbrev pub degree : View → VertexId → ℕ
degree v w = count_by (λ d. (source_in v d).0 == w.0) (dart_names v)
