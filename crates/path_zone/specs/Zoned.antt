-- Sides with their zones, and what one more side adds to them.
use Rattle.std.specs.Prelude.{◌≡◌, ◌⊎◌, ◌<◌, ◌&&◌, ◌||◌, ◌++◌, ℕ, Bool, true, false, List, [], ◌∷◌, length, map, Option, Some, None}
use Rattle.std.specs.List.{flat_map, slice_index_or}
use Rattle.exact_plane.specs.Point.{Point, point_eq}
use Rattle.exact_plane.specs.Segment.{Segment, AreEnds}
use Rattle.exact_plane.specs.Span.{span_of_segment, IsSpan}
use Rattle.exact_plane.specs.WholeParts.{bounding_box}
use Rattle.plane_graphs.specs.Ascending.{Member}
use Rattle.slab_laws.specs.View.{View, Faces}
use Rattle.dcel_records.specs.declared.spot.Spot.{Spot}
use Rattle.face_location.specs.Spots.{IsSpotOf}
use Rattle.zone_walk.specs.declared.plan.Meeting.{Meeting}
use Rattle.zone_walk.specs.declared.plan.ZonePlan.{ZonePlan}
use Rattle.zone_walk.specs.Zone.{is_on_segment, IsZoneOf}
use Rattle.path_zone.specs.declared.zoned.ZonedSide.{ZonedSide}
use Rattle.path_zone.specs.Gathered.{HasMore, HasPoint, IsSpotWithin}
use Rattle.path_zone.specs.PathZone.{IsCrossing}

-- a side with its zone
pub record IsZonedSide (v : View) (f : Faces) (z : ZonedSide) : Type 0 where
  pub ends : AreEnds z.side
  pub span : IsSpan (span_of_segment z.side)
  pub whole : z.whole ≡ span_of_segment z.side
  pub bounds : z.bounds ≡ bounding_box (span_of_segment z.side)
  pub zone : IsZoneOf v f z.side z.plan

abbrev pub AreZonedSides : View → Faces → List ZonedSide → Type 0
AreZonedSides v f zs = (z : ZonedSide) → Member z zs → IsZonedSide v f z

abbrev pub sides_zoned : List ZonedSide → List Segment
sides_zoned zs = map (λ z. z.side) zs

-- the vertices of all zones
abbrev pub vertices_zoned : List ZonedSide → List Meeting
vertices_zoned zs = flat_map (λ z. z.plan.vertices) zs

-- an end of the one is an end of the other
abbrev pub has_common_end : Segment → Segment → Bool
has_common_end s t = (point_eq s.lower t.lower || point_eq s.upper t.lower) || (point_eq s.lower t.upper || point_eq s.upper t.upper)

-- both ends of a side are on another one
abbrev pub is_over : ZonedSide → Segment → Bool
is_over z s = is_on_segment z.side s.lower && is_on_segment z.side s.upper

-- the side at the place has both ends of this one
pub record IsPlaceOver (zs : List ZonedSide) (s : Segment) (place : ℕ) : Type 0 where
  pub within : place < length zs
  pub over : (d : ZonedSide) → is_over (slice_index_or zs place d) s ≡ true

-- one of the sides has the point
abbrev pub IsOnOne : List ZonedSide → Point → Type 0
IsOnOne zs x = (z : ZonedSide) × Member z zs × (is_on_segment z.side x ≡ true)

-- the spot is that of the point; none where no side has the point
abbrev pub IsToldOf : View → Faces → List ZonedSide → Point → Option Spot → Type 0
IsToldOf v f zs x None = (z : ZonedSide) → Member z zs → is_on_segment z.side x ≡ false
IsToldOf v f zs x (Some spot) = IsSpotOf v f x spot

-- ---- what is added
-- the meeting of a point that lies at the spot; none where it is one of the zone's vertices
abbrev pub added_at : Point → Option Spot → List Meeting
added_at x None = []
added_at x (Some spot) = record { point = x; spot = spot } ∷ []

-- the point was added, unless it is one of the zone's vertices
pub record HasAdded (v : View) (f : Faces) (z : ZonePlan) (x : Point) (old new : List Meeting) : Type 0 where
  pub spot : Option Spot
  pub within : IsSpotWithin v f z x spot
  pub items : new ≡ old ++ added_at x spot

-- both ends of a side were added, unless they are vertices of the zone of the other one
pub record HasEnds (v : View) (f : Faces) (z : ZonedSide) (s : Segment) (old new : List Meeting) : Type 0 where
  pub ends : AreEnds s
  pub more : HasMore v f (s ∷ []) old new
  pub lower : HasPoint new s.lower ⊎ HasPoint z.plan.vertices s.lower
  pub upper : HasPoint new s.upper ⊎ HasPoint z.plan.vertices s.upper

-- a side that runs along another one came: its ends are added
pub record IsAlong (v : View) (f : Faces) (s : Segment) (zs : List ZonedSide) (ms : List Meeting) (zs1 : List ZonedSide) (ms1 : List Meeting) : Type 0 where
  pub other : ZonedSide
  pub among : Member other zs
  pub over : is_over other s ≡ true
  pub zones : zs1 ≡ zs
  pub ends : HasEnds v f other s ms ms1

-- a side came with its zone: the points are added where it crosses others
pub record IsNew (v : View) (f : Faces) (s : Segment) (zs : List ZonedSide) (ms : List Meeting) (zs1 : List ZonedSide) (ms1 : List Meeting) : Type 0 where
  pub one : ZonedSide
  pub side : one.side ≡ s
  pub zoned : IsZonedSide v f one
  pub zones : zs1 ≡ zs ++ (one ∷ [])
  pub more : HasMore v f (s ∷ sides_zoned zs) ms ms1
  pub there : (t : Segment) (x : Point) → Member t (sides_zoned zs) → IsCrossing s t x → HasPoint ms1 x ⊎ HasPoint one.plan.vertices x

-- one more side came (this project)
abbrev pub HasSide : View → Faces → Segment → List ZonedSide → List Meeting → List ZonedSide → List Meeting → Type 0
HasSide v f s zs ms zs1 ms1 = IsAlong v f s zs ms zs1 ms1 ⊎ IsNew v f s zs ms zs1 ms1
