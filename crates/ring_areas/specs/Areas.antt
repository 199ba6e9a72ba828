-- The areas of closed rings, and of what they bound.
use Rattle.std.specs.Prelude.{◌≡◌, ◌<◌, ◌==◌, ◌||◌, ℕ, Bool, false, cond, List, length, slice_index_or, Option, None, Some, ℤ, pos, ◌-ℤ◌, ◌*ℤ◌}
use Rattle.exact_plane.specs.Point.{Point}
use Rattle.region_rings.specs.Holes.{corner_in, place_after, ring_of}
use Rattle.region_rings.specs.Rings.{RingTable}
use Rattle.ring_areas.specs.Fractions.{Fraction, none, total, half}

-- twice the area of the triangle from (0, 0) to p to q, times both weights: positive where q is counterclockwise from p
abbrev pub cross : Point → Point → ℤ
cross p q = p.x *ℤ q.y -ℤ q.x *ℤ p.y

-- the same area, for the places (x / w, y / w)
abbrev pub side_cross : Point → Point → Fraction
side_cross p q = record { numerator = cross p q; denominator = p.w *ℤ q.w }

-- of the side from a corner of a closed ring to the next one
abbrev pub side_at : List Point → ℕ → Fraction
side_at ps i = side_cross (corner_in ps i) (corner_in ps (place_after ps i))

abbrev pub twice_area : List Point → Fraction
twice_area ps = total (side_at ps) (length ps)

-- the signed area of a closed ring, positive where it goes round counterclockwise (the shoelace formula; O'Rourke, Computational Geometry in C, 1.3)
abbrev pub area : List Point → Fraction
area ps = half (twice_area ps)

-- each corner is whole
abbrev pub AreWhole : List Point → Type 0
AreWhole ps = (i : ℕ) → i < length ps → (corner_in ps i).w ≡ pos 1

-- ---- rings of a region
abbrev pub ring_area : RingTable → ℕ → Fraction
ring_area t r = area (ring_of t.points t.ends r)

-- the sum over all rings, of which holes are negative
abbrev pub rings_area : RingTable → Fraction
rings_area t = total (ring_area t) (length t.ends)

-- the outer ring that is told is this one
abbrev pub is_told : Option ℕ → ℕ → Bool
is_told None q = false
is_told (Some p) q = p == q

-- the ring is this outer one, or a hole in it
abbrev pub is_in_polygon : RingTable → ℕ → ℕ → Bool
is_in_polygon t q r = r == q || is_told (slice_index_or t.outers r None) q

-- a ring's area where it is of the polygon
abbrev pub area_within : RingTable → ℕ → ℕ → Fraction
area_within t q r = cond (is_in_polygon t q r) (ring_area t r) none

-- the sum over an outer ring and its holes (CGAL manual, polygons with holes)
abbrev pub polygon_area : RingTable → ℕ → Fraction
polygon_area t q = total (area_within t q) (length t.ends)
