-- How a box lies to another one, and to a place, by whole parts; borders are among a box's points.
use Rattle.std.specs.Prelude.{ℤ, ◌≤ℤ◌, negsuc, Bool, ◌&&◌, ◌||◌, int_lt}
use Rattle.std.specs.Int.{int_min, int_max}
use Rattle.std.specs.Ordering.{int_eq}
use Rattle.exact_plane.specs.Point.{Point}
use Rattle.exact_plane.specs.WholeParts.{whole_parts}
use Rattle.exact_plane.specs.declared.whole_parts.BoundingBox.{BoundingBox}
use Rattle.exact_plane.specs.declared.whole_parts.WholeParts.{WholeParts}

-- the range from low to high is beyond one end of the other one
abbrev pub are_ranges_apart : ℤ → ℤ → ℤ → ℤ → Bool
are_ranges_apart low high from to = int_lt high from || int_lt to low

-- the second box is to the left of the first, or to its right
abbrev pub are_apart_across : BoundingBox → BoundingBox → Bool
are_apart_across k a = are_ranges_apart a.least.x a.greatest.x k.least.x k.greatest.x

-- it is below the first, or above it
abbrev pub are_apart_along : BoundingBox → BoundingBox → Bool
are_apart_along k a = are_ranges_apart a.least.y a.greatest.y k.least.y k.greatest.y

-- it is beyond one side of the first (CGAL, do_overlap of two Bbox_2)
abbrev pub are_apart : BoundingBox → BoundingBox → Bool
are_apart k a = are_apart_across k a || are_apart_along k a

-- the range from low to high has numbers outside the other one
abbrev pub exceeds_range : ℤ → ℤ → ℤ → ℤ → Bool
exceeds_range low high from to = int_lt low from || int_lt to high

abbrev pub exceeds_across : BoundingBox → BoundingBox → Bool
exceeds_across k a = exceeds_range a.least.x a.greatest.x k.least.x k.greatest.x

abbrev pub exceeds_along : BoundingBox → BoundingBox → Bool
exceeds_along k a = exceeds_range a.least.y a.greatest.y k.least.y k.greatest.y

-- the second box has points outside the first
abbrev pub exceeds : BoundingBox → BoundingBox → Bool
exceeds k a = exceeds_across k a || exceeds_along k a

-- the least box that covers both (CGAL, the sum of two Bbox_2)
abbrev pub covering : BoundingBox → BoundingBox → BoundingBox
covering a b = record {
  least = record { x = int_min a.least.x b.least.x; y = int_min a.least.y b.least.y };
  greatest = record { x = int_max a.greatest.x b.greatest.x; y = int_max a.greatest.y b.greatest.y };
}

-- the first box lies within the second
pub record IsWithin (a b : BoundingBox) : Type 0 where
  pub left : b.least.x ≤ℤ a.least.x
  pub right : a.greatest.x ≤ℤ b.greatest.x
  pub below : b.least.y ≤ℤ a.least.y
  pub above : a.greatest.y ≤ℤ b.greatest.y

-- all that is at the abscissa and not above the ordinate, as far as numbers of 32 bits go
abbrev pub ray_below : WholeParts → BoundingBox
ray_below p = record { least = record { x = p.x; y = negsuc 2147483647 }; greatest = p }

-- the same numbers
abbrev pub are_same_places : WholeParts → WholeParts → Bool
are_same_places a b = int_eq a.x b.x && int_eq a.y b.y

abbrev pub are_same_boxes : BoundingBox → BoundingBox → Bool
are_same_boxes a b = are_same_places a.least b.least && are_same_places a.greatest b.greatest

-- the least box with whole sides that has the whole parts of both points
abbrev pub box_between : Point → Point → BoundingBox
box_between p q = covering (record { least = whole_parts p; greatest = whole_parts p }) (record { least = whole_parts q; greatest = whole_parts q })

-- the box is to the left of the place, or to its right
abbrev pub is_beside : WholeParts → BoundingBox → Bool
is_beside p a = are_ranges_apart a.least.x a.greatest.x p.x p.x

-- it is so, or above the place
abbrev pub is_beside_or_above : WholeParts → BoundingBox → Bool
is_beside_or_above p a = is_beside p a || int_lt p.y a.least.y

-- the box is below the place, or above it
abbrev pub is_below_or_above : WholeParts → BoundingBox → Bool
is_below_or_above p a = are_ranges_apart a.least.y a.greatest.y p.y p.y
