-- Points in order, points on a line, and where two lines cross.
use Rattle.std.specs.Prelude.{◌≡◌, suc, Bool, ℤ, pos, negsuc, ◌-ℤ◌, ◌*ℤ◌, ◌<ℤ◌, neg_ℤ}
use Rattle.std.specs.Ordering.{is_lt, is_eq, int_eq}
use Rattle.integers.specs.Lowest.{IsLowest}
use Rattle.exact_plane.specs.Point.{Point, reduced}
use Rattle.exact_plane.specs.PointOrder.{point_cmp}
use Rattle.exact_plane.specs.Line.{Line, side_of}
use Rattle.exact_plane.specs.Plane.{RunsForward}

-- three numbers that name a place of the plane, as the exact kernel has it: a positive weight, and lowest terms (Fogel, Halperin and Wein); a point without its bounds
pub record IsProper (p : Point) : Type 0 where
  pub positive : pos 0 <ℤ p.w
  pub lowest : IsLowest p.x p.y p.w

-- three numbers that name a line of the plane: in lowest terms, with the direction from lower points to upper ones (Fogel, Halperin and Wein); a line without its bounds
pub record IsProperLine (l : Line) : Type 0 where
  pub lowest : IsLowest l.a l.b l.c
  pub runs : RunsForward l.a l.b

-- p has whole coordinates, as the ends of segments have
abbrev pub IsWhole : Point → Type 0
IsWhole p = p.w ≡ pos 1

-- p comes before q, by x and then by y
abbrev pub precedes : Point → Point → Bool
precedes p q = is_lt (point_cmp p q)

-- p and q are one point
abbrev pub same_point : Point → Point → Bool
same_point p q = is_eq (point_cmp p q)

-- the point is on the line
abbrev pub is_on : Line → Point → Bool
is_on l p = int_eq (side_of l p) (pos 0)

-- the two lines have one direction
abbrev pub are_parallel : Line → Line → Bool
are_parallel l m = int_eq (l.a *ℤ m.b) (m.a *ℤ l.b)

-- the place (x / w, y / w) with a positive weight and in lowest terms, where w is not 0
unfoldable pub homogeneous_point : ℤ → ℤ → ℤ → Point
homogeneous_point x y (pos w) = reduced x y (pos w)
homogeneous_point x y (negsuc w) = reduced (neg_ℤ x) (neg_ℤ y) (pos (suc w))

-- the common point of two lines that are not parallel (Fogel, Halperin and Wein)
unfoldable pub crossing : Line → Line → Point
crossing l m = homogeneous_point (l.b *ℤ m.c -ℤ m.b *ℤ l.c) (l.c *ℤ m.a -ℤ m.c *ℤ l.a) (l.a *ℤ m.b -ℤ m.a *ℤ l.b)
