-- The sides between neighbouring points, and what a list of points makes.
use Rattle.std.specs.Prelude.{◌≡◌, ◌≤◌, ◌+◌, ℕ, Bool, ◌&&◌, ℤ, List, length, map, drop, zip, nat_le, Result, Ok, Err, if◌then◌else◌}
use Rattle.std.specs.Ordering.{int_eq}
use Rattle.std.specs.List.{list_all, list_any}
use Rattle.exact_plane.specs.declared.bounds.TheConstants.{MAX_SIDES}
use Rattle.exact_plane.specs.declared.path.PathError.{PathError}
use Rattle.exact_plane.specs.declared.path.PathError.TheVariants.{Count, Range, Equal}
use Rattle.exact_plane.specs.Segment.{Segment, segment, is_before, is_coordinate, IsCoordinate}

-- a place, as x and y
abbrev pub Pair : Type 0
Pair = ℤ × ℤ

-- the pairs of neighbours in a list
abbrev pub neighbours : List Pair → List (Pair × Pair)
neighbours points = zip points (drop 1 points)

-- both numbers are coordinates
pub record AreInRange (point : Pair) : Type 0 where
  pub x : IsCoordinate point.0
  pub y : IsCoordinate point.1

-- whether both are
abbrev pub are_in_range : Pair → Bool
are_in_range point = is_coordinate point.0 && is_coordinate point.1

-- two points are one
abbrev pub AreEqual : Pair × Pair → Type 0
AreEqual ends = ends.0 ≡ ends.1

-- whether they are
abbrev pub are_equal : Pair × Pair → Bool
are_equal ends = int_eq ends.0.0 ends.1.0 && int_eq ends.0.1 ends.1.1

-- the side between two points, its lesser end first
abbrev pub side_between : Pair × Pair → Segment
side_between ends =
    if is_before ends.0.0 ends.0.1 ends.1.0 ends.1.1
    then segment ends.0.0 ends.0.1 ends.1.0 ends.1.1
    else segment ends.1.0 ends.1.1 ends.0.0 ends.0.1

-- so many points are a path's
pub record IsPointCount (count : ℕ) : Type 0 where
  pub some : 2 ≤ count
  pub few : count ≤ MAX_SIDES + 1

-- whether so many are
abbrev pub is_point_count : ℕ → Bool
is_point_count count = nat_le 2 count && nat_le count (MAX_SIDES + 1)

-- the sides between neighbouring points
abbrev pub sides_between : List Pair → List Segment
sides_between points = map side_between (neighbours points)

-- the path along points: its sides, or the first reason why there is none
abbrev pub path_of : List Pair → Result (List Segment) PathError
path_of points =
    if is_point_count (length points)
    then (if list_all are_in_range points then (if list_any are_equal (neighbours points) then Err Equal else Ok (sides_between points)) else Err Range)
    else Err Count

-- so many sides as a path has
pub record ArePathSides (sides : List Segment) : Type 0 where
  pub some : 1 ≤ length sides
  pub few : length sides ≤ MAX_SIDES
