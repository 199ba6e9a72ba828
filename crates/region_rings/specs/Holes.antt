-- Rings as lists of corners, and which of them are holes.
use Rattle.std.specs.Prelude.{◌≡◌, ◌≢◌, ◌↔◌, ◌+◌, ◌-◌, ◌<◌, ◌==◌, ◌&&◌, ℕ, Bool, true, false, cond, List, length, slice_index_or, take, drop, IsTrue}
use Rattle.std.specs.declared.cmp.Ordering.TheVariants.{Less}
use Rattle.std.specs.Ordering.{is_lt}
use Rattle.exact_plane.specs.Point.{Point, point_eq}
use Rattle.exact_plane.specs.PointOrder.{point_cmp}
use Rattle.polygon_sets.specs.ClosedBorders.{way_before, no_point}
use Rattle.region_rings.specs.Cycles.{ring_start, ring_end}

-- the corner at a place
abbrev pub corner_in : List Point → ℕ → Point
corner_in ps i = slice_index_or ps i no_point

-- the place before another in a closed ring, and the place after it
abbrev pub place_before : List Point → ℕ → ℕ
place_before ps i = cond (i == 0) (length ps - 1) (i - 1)

abbrev pub place_after : List Point → ℕ → ℕ
place_after ps i = cond (i + 1 == length ps) 0 (i + 1)

-- clockwise from straight down, the way on from the corner is met before the way back: so what is on the left of the ring goes round below and left of the corner (CGAL manual, orientation of a polygon; this project)
abbrev pub turns_wide : List Point → ℕ → Bool
turns_wide ps i = way_before (corner_in ps i) (corner_in ps (place_after ps i)) (corner_in ps (place_before ps i))

-- no corner is less than the one at i: none lies to its left, and none below it on its vertical
abbrev pub IsLeastAt : List Point → ℕ → Type 0
IsLeastAt ps i = (j : ℕ) → j < length ps → point_cmp (corner_in ps j) (corner_in ps i) ≢ Less

-- the place of the lesser one of two corners
abbrev pub lesser_place : List Point → ℕ → ℕ → ℕ
lesser_place ps i j = cond (is_lt (point_cmp (corner_in ps i) (corner_in ps j))) i j

-- at i the ring has this corner, and turns wide
abbrev pub is_wide_at : List Point → Point → ℕ → Bool
is_wide_at ps p i = point_eq (corner_in ps i) p && turns_wide ps i

-- the ring turns wide at its least corner, as a clockwise one does; where it passes there several times, once
pub record IsHole (ps : List Point) : Type 0 where
  pub at : ℕ
  pub within : at < length ps
  pub least : IsLeastAt ps at
  pub wide : turns_wide ps at ≡ true

-- the corners of a ring, of those of all rings
abbrev pub ring_of : List Point → List ℕ → ℕ → List Point
ring_of points ends r = take (ring_end ends r - ring_start ends r) (drop (ring_start ends r) points)

-- of each ring whether it is a hole
pub record AreHoles (points : List Point) (ends : List ℕ) (holes : List Bool) : Type 0 where
  pub counted : length holes ≡ length ends
  pub each : (r : ℕ) → r < length ends → IsTrue (slice_index_or holes r false) ↔ IsHole (ring_of points ends r)
