-- The ends of darts as the code sorts them: round their vertices, clockwise from straight down.
use Rattle.std.specs.Prelude.{◌≡◌, ◌<◌, ℕ, ℤ, pos, neg_ℤ, Bool, true, false, List, map, ◌++◌, length, slice_index_or, unsigned_abs}
use Rattle.std.specs.List.{range_with_len}
use Rattle.std.specs.List.Sorted.{IsPermutation}
use Rattle.std.specs.declared.cmp.Ordering.TheVariants.{Less}
use Rattle.std.specs.Ordering.{nat_cmp, int_cmp, ordering_then, match_ordering}
use Rattle.std.specs.declared.cmp.Ordering.{Ordering}
use Rattle.integers.specs.Ratio.{ratio_cmp}
use Rattle.exact_plane.specs.Direction.{Direction}
use Rattle.exact_plane.specs.Point.{Point}
use Rattle.exact_plane.specs.PointOrder.{point_cmp, weight}
use Rattle.region_rings.specs.declared.spokes.Spoke.{Spoke}
use Rattle.rotation_order.specs.Directions.{quarter}
use Rattle.polygon_sets.specs.ClosedBorders.{no_point, dart_at, way}

-- how far a direction rises over its run, to the left or to the right (this project)
abbrev pub rise : Direction → ℤ
rise d = match_ordering (int_cmp d.x (pos 0)) (neg_ℤ d.y) (pos 0) d.y

-- one end of a dart: its vertex, the way on from there, whether the dart goes out there, and the dart's place
abbrev pub spoke : Point → Point → Bool → ℕ → Spoke
spoke p q o k = record { at = p; quarter = quarter (way p q); rise = rise (way p q); run = unsigned_abs (way p q).x; is_out = o; dart = k }

abbrev pub out_spoke : List (Point × Point) → ℕ → Spoke
out_spoke ds k = spoke (dart_at ds k).0 (dart_at ds k).1 true k

abbrev pub in_spoke : List (Point × Point) → ℕ → Spoke
in_spoke ds k = spoke (dart_at ds k).1 (dart_at ds k).0 false k

-- both ends of all darts
abbrev pub spokes_by : List (Point × Point) → List Spoke
spokes_by ds = map (out_spoke ds) (range_with_len 0 (length ds)) ++ map (in_spoke ds) (range_with_len 0 (length ds))

-- clockwise from straight down: by quarter, then from steep ways to flat ones
abbrev pub turn_cmp : Spoke → Spoke → Ordering
turn_cmp v w = ordering_then (nat_cmp v.quarter w.quarter) (ratio_cmp w.rise (weight (pos w.run)) v.rise (weight (pos v.run)))

-- by vertex, and so round it
abbrev pub spoke_cmp : Spoke → Spoke → Ordering
spoke_cmp v w = ordering_then (point_cmp v.at w.at) (turn_cmp v w)

-- what stands where there is no end
abbrev pub no_spoke : Spoke
no_spoke = spoke no_point no_point false 0

-- the end at a place
abbrev pub spoke_in : List Spoke → ℕ → Spoke
spoke_in ss i = slice_index_or ss i no_spoke

-- both ends of all darts, in their order, no two at one vertex in one direction
pub record AreSpokes (ds : List (Point × Point)) (ss : List Spoke) : Type 0 where
  pub all : IsPermutation (spokes_by ds) ss
  pub ascending : (i k : ℕ) → i < k → k < length ss → spoke_cmp (spoke_in ss i) (spoke_in ss k) ≡ Less
