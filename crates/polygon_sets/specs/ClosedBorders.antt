-- Borders as lists of darts, each told by its two ends: which dart follows which, and that each is followed by one.
use Rattle.std.specs.Prelude.{◌≡◌, ◌≢◌, ◌⊎◌, ◌<◌, ◌-ℤ◌, ◌*ℤ◌, pos, ℕ, Bool, true, false, List, length, slice_index_or}
use Rattle.std.specs.List.{Contains}
use Rattle.exact_plane.specs.Direction.{Direction}
use Rattle.exact_plane.specs.Point.{Point}
use Rattle.rotation_order.specs.Directions.{direction_before}
use Rattle.rotation_order.specs.RingOrder.{sooner_by}

-- what stands where there is no dart
abbrev pub no_point : Point
no_point = record { x = pos 0; y = pos 0; w = pos 1 }

abbrev pub no_dart : Point × Point
no_dart = (no_point, no_point)

-- the dart at a place
abbrev pub dart_at : List (Point × Point) → ℕ → Point × Point
dart_at ds k = slice_index_or ds k no_dart

-- the direction from one point to another, in length times both weights (this project)
abbrev pub way : Point → Point → Direction
way p q = record { x = q.x *ℤ p.w -ℤ p.x *ℤ q.w; y = q.y *ℤ p.w -ℤ p.y *ℤ q.w }

-- from v, p is met before q, clockwise from straight down (CGAL manual, circulator around a vertex)
abbrev pub way_before : Point → Point → Point → Bool
way_before v p q = direction_before (way v p) (way v q)

-- from v, clockwise from just after the way to p, the way to q is met before that to r
abbrev pub is_sooner : Point → Point → Point → Point → Bool
is_sooner v p q r = sooner_by (way_before v) p q r

-- a dart goes from v to p, or from p to v
abbrev pub IsEndAt : List (Point × Point) → Point → Point → Type 0
IsEndAt ds v p = Contains ds (v, p) ⊎ Contains ds (p, v)

-- e goes out of d's target, and of all darts there, whether they go out or come in, it is met first, clockwise from the way back along d: so it bounds what is on the left of d, whose boundary goes on along it (CGAL manual, next halfedge of a boundary; the darts that aren't of the border are left out)
pub record IsNextSide (ds : List (Point × Point)) (d e : Point × Point) : Type 0 where
  pub joined : d.1 ≡ e.0
  pub first : (p : Point) → IsEndAt ds d.1 p → p ≢ e.1 → is_sooner d.1 d.0 e.1 p ≡ true

-- an end of a dart, where it goes out or where it comes in, and the other end of it
abbrev pub end_of : Point × Point → Bool → Point × Point
end_of d true = d
end_of d false = (d.1, d.0)

-- from v, neither of two points is met before the other: they lie in one direction
abbrev pub IsOneWay : Point → Point → Point → Type 0
IsOneWay v p q = (way_before v p q ≡ false) × (way_before v q p ≡ false)

-- no two ends of darts at one vertex lead in one direction, and each dart is followed by another one of the border
pub record IsClosedBorder (ds : List (Point × Point)) : Type 0 where
  pub apart : (j k : ℕ) (o p : Bool) → j < length ds → k < length ds → (end_of (dart_at ds j) o).0 ≡ (end_of (dart_at ds k) p).0 → IsOneWay (end_of (dart_at ds k) p).0 (end_of (dart_at ds j) o).1 (end_of (dart_at ds k) p).1 → (j ≡ k) × (o ≡ p)
  pub follows : (k : ℕ) → k < length ds → (j : ℕ) × (j < length ds) × IsNextSide ds (dart_at ds k) (dart_at ds j)
