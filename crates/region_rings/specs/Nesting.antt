-- Which outer ring goes round which hole.
use Rattle.std.specs.Prelude.{◌≡◌, ◌≢◌, ◌<◌, ◌%◌, ◌==◌, ◌&&◌, ◌||◌, ℕ, Bool, true, false, not, cond, List, length, slice_index_or, pos, Option, Some, None}
use Rattle.std.specs.List.{count_by, range_with_len}
use Rattle.std.specs.declared.cmp.Ordering.TheVariants.{Less}
use Rattle.std.specs.Ordering.{is_lt}
use lib.Signed.{lt_z}
use Rattle.exact_plane.specs.Direction.{turn}
use Rattle.exact_plane.specs.Point.{Point}
use Rattle.exact_plane.specs.PointOrder.{point_cmp}
use Rattle.polygon_sets.specs.ClosedBorders.{way}
use Rattle.region_rings.specs.Holes.{corner_in, place_after, ring_of, IsLeastAt}

-- ---- the even-odd rule
-- q is on the right of p's vertical
abbrev pub is_right : Point → Point → Bool
is_right p q = lt_z (pos 0) (way p q).x

-- p is above the line from q to r, which is on the right of q's vertical
abbrev pub is_above : Point → Point → Point → Bool
is_above p q r = lt_z (pos 0) (turn (way p q) (way p r))

-- the side between q and r passes below p: just one of its ends is on the right of p's vertical, and p is above its line
abbrev pub passes_below : Point → Point → Point → Bool
passes_below p q r = (is_right p r && (not (is_right p q) && is_above p q r)) || (is_right p q && (not (is_right p r) && is_above p r q))

-- the side from a corner of the ring to the next one passes below p
abbrev pub side_below : List Point → Point → ℕ → Bool
side_below ps p i = passes_below p (corner_in ps i) (corner_in ps (place_after ps i))

-- the ring goes round p: of its sides an odd number pass below (even-odd rule: Foley, van Dam and others, Computer Graphics)
abbrev pub goes_round : List Point → Point → Bool
goes_round ps p = count_by (side_below ps p) (range_with_len 0 (length ps)) % 2 == 1

-- ---- least corners
-- no corner of the ring is less than this one
pub record IsLeastCorner (ps : List Point) (p : Point) : Type 0 where
  pub at : ℕ
  pub within : at < length ps
  pub is : corner_in ps at ≡ p
  pub least : IsLeastAt ps at

-- of each ring its least corner
pub record AreLeasts (points : List Point) (ends : List ℕ) (leasts : List Point) : Type 0 where
  pub counted : length leasts ≡ length ends
  pub each : (r : ℕ) → r < length ends → IsLeastCorner (ring_of points ends r) (corner_in leasts r)

-- ---- holes in outer rings
-- the ring q is an outer one that goes round p
pub record IsRound (points : List Point) (ends : List ℕ) (holes : List Bool) (p : Point) (q : ℕ) : Type 0 where
  pub within : q < length ends
  pub outer : slice_index_or holes q false ≡ false
  pub round : goes_round (ring_of points ends q) p ≡ true

-- of the outer rings that go round p the innermost one, whose least corner is the greatest; or none goes round it
abbrev pub IsInnermost : List Point → List ℕ → List Bool → List Point → Point → Option ℕ → Type 0
IsInnermost points ends holes leasts p None = (q : ℕ) → IsRound points ends holes p q → ⊥
IsInnermost points ends holes leasts p (Some q) = IsRound points ends holes p q × ((r : ℕ) → IsRound points ends holes p r → point_cmp (corner_in leasts q) (corner_in leasts r) ≢ Less)

-- the outer ring of a hole; an outer ring has none
abbrev pub IsOuterOf : List Point → List ℕ → List Bool → List Point → ℕ → Option ℕ → Type 0
IsOuterOf points ends holes leasts r o = (slice_index_or holes r false ≡ true → IsInnermost points ends holes leasts (corner_in leasts r) o) × (slice_index_or holes r false ≡ false → o ≡ None)

-- of each hole the innermost outer ring round its least corner (Open Geospatial Consortium, simple features: a polygon is an exterior ring and its interior rings)
pub record AreOuters (points : List Point) (ends : List ℕ) (holes : List Bool) (leasts : List Point) (outers : List (Option ℕ)) : Type 0 where
  pub counted : length outers ≡ length ends
  pub each : (r : ℕ) → r < length ends → IsOuterOf points ends holes leasts r (slice_index_or outers r None)

-- ---- in the code
-- of two rings the one whose least corner is greater
abbrev pub inner_one : List Point → Option ℕ → ℕ → ℕ
inner_one leasts None r = r
inner_one leasts (Some q) r = cond (is_lt (point_cmp (corner_in leasts q) (corner_in leasts r))) r q
