-- The whole parts of a point's coordinates, and the box of a span by them.
use Rattle.std.specs.Prelude.{ℤ, Bool, ◌&&◌, ◌||◌, int_lt}
use Rattle.std.specs.Int.{int_min, int_max}
use Rattle.exact_plane.specs.Place.{whole_part}
use Rattle.exact_plane.specs.Point.{Point}
use Rattle.exact_plane.specs.Span.{Span}
use Rattle.exact_plane.specs.declared.whole_parts.WholeParts.{WholeParts}
use Rattle.exact_plane.specs.declared.whole_parts.BoundingBox.{BoundingBox}

-- the greatest whole numbers that aren't past the coordinates
abbrev pub whole_parts : Point → WholeParts
whole_parts p = record { x = whole_part p.x p.w; y = whole_part p.y p.w }

-- both numbers are below the limit, or both above it
abbrev pub are_less : ℤ → ℤ → ℤ → Bool
are_less a b limit = int_lt a limit && int_lt b limit

abbrev pub are_greater : ℤ → ℤ → ℤ → Bool
are_greater a b limit = int_lt limit a && int_lt limit b

-- both numbers are beyond the same end of a range
abbrev pub are_beyond : ℤ → ℤ → ℤ → ℤ → Bool
are_beyond a b least greatest = are_less a b least || are_greater a b greatest

-- both a and b are to the left of p, or both to its right
abbrev pub is_left_or_right_of : WholeParts → WholeParts → WholeParts → Bool
is_left_or_right_of p a b = are_beyond a.x b.x p.x p.x

-- both a and b are below p, or both above it
abbrev pub is_above_or_below : WholeParts → WholeParts → WholeParts → Bool
is_above_or_below p a b = are_beyond a.y b.y p.y p.y

-- the least box with whole sides that has the whole parts of both ends (CGAL, Bbox_2)
abbrev pub bounding_box : Span → BoundingBox
bounding_box s = let a = whole_parts s.lower in let b = whole_parts s.upper in record { least = record { x = a.x; y = int_min a.y b.y }; greatest = record { x = b.x; y = int_max a.y b.y } }

-- both places are to the left of the box, or both to its right
abbrev pub excludes_across : BoundingBox → WholeParts → WholeParts → Bool
excludes_across k a b = are_beyond a.x b.x k.least.x k.greatest.x

-- both are below it, or both above
abbrev pub excludes_along : BoundingBox → WholeParts → WholeParts → Bool
excludes_along k a b = are_beyond a.y b.y k.least.y k.greatest.y

-- both places are beyond one side of the box
abbrev pub excludes : BoundingBox → WholeParts → WholeParts → Bool
excludes k a b = excludes_across k a b || excludes_along k a b
