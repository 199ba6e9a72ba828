-- Directions in the order in which they are met clockwise from a first one.
use Rattle.std.specs.Prelude.{◌≡◌, ◌≤◌, ◌⊎◌, ℕ, ℤ, pos, ◌+ℤ◌, ◌-ℤ◌, ◌*ℤ◌, ◌<ℤ◌, neg_ℤ, unsigned_abs}
use Rattle.std.specs.declared.cmp.Ordering.{Ordering}
use Rattle.std.specs.declared.cmp.Ordering.TheVariants.{Less, Equal, Greater}
use Rattle.std.specs.Ordering.{int_cmp, nat_cmp, on, then_cmp}
use Rattle.exact_plane.specs.declared.bounds.TheConstants.{MAX_DIFFERENCE}
use Rattle.exact_plane.specs.Line.{Line}

-- the way from (0, 0) to (x, y)
pub record Direction : Type 0 where
  pub x : ℤ
  pub y : ℤ

-- two numbers that are a direction's
pub record IsDirection (d : Direction) : Type 0 where
  pub x_within : unsigned_abs d.x ≤ MAX_DIFFERENCE
  pub y_within : unsigned_abs d.y ≤ MAX_DIFFERENCE
  pub some : pos 0 <ℤ (d.x *ℤ d.x +ℤ d.y *ℤ d.y)

-- four numbers of two directions
pub record AreDirections (x1 y1 x2 y2 : ℤ) : Type 0 where
  pub first_x : unsigned_abs x1 ≤ MAX_DIFFERENCE
  pub first_y : unsigned_abs y1 ≤ MAX_DIFFERENCE
  pub second_x : unsigned_abs x2 ≤ MAX_DIFFERENCE
  pub second_y : unsigned_abs y2 ≤ MAX_DIFFERENCE

-- of a line, from its lower to its upper end
abbrev pub direction_of : Line → Direction
direction_of l = record { x = l.b; y = neg_ℤ l.a }

-- the opposite direction
abbrev pub opposite : Direction → Direction
opposite d = record { x = neg_ℤ d.x; y = neg_ℤ d.y }

-- negative where b is less than half a turn clockwise from a, 0 where it is a or its opposite
abbrev pub turn : Direction → Direction → ℤ
turn a b = a.x *ℤ b.y -ℤ a.y *ℤ b.x

-- positive where b is less than a quarter of a turn from a, either way
abbrev pub along : Direction → Direction → ℤ
along a b = a.x *ℤ b.x +ℤ a.y *ℤ b.y

-- two are one direction
pub record IsOneDirection (a b : Direction) : Type 0 where
  pub straight : turn a b ≡ pos 0
  pub forward : pos 0 <ℤ along a b

-- going once round clockwise from f, which points elsewhere than a, one meets a before b: of the three turns f to a, a to b and b to f
-- at least two go clockwise by less than half a turn, and so have a negative `turn` (y points up). Where the three aren't in one half
-- of the plane, all three do. The other way round at most one does.
abbrev pub IsClockwise : Direction → Direction → Direction → Type 0
IsClockwise f a b = ((turn f a <ℤ pos 0) × (turn a b <ℤ pos 0)) ⊎ (((turn a b <ℤ pos 0) × (turn b f <ℤ pos 0)) ⊎ ((turn b f <ℤ pos 0) × (turn f a <ℤ pos 0)))

-- where a direction stands, clockwise from a first one: 0 it is the first, 1 before its opposite, 2 the opposite, 3 after it
abbrev pub quarter : Ordering → Ordering → ℕ
quarter Less d = 1
quarter Greater d = 3
quarter Equal Less = 2
quarter Equal Equal = 2
quarter Equal Greater = 0

abbrev pub place : Direction → Direction → ℕ
place f a = quarter (int_cmp (turn f a) (pos 0)) (int_cmp (along f a) (pos 0))

-- of two less than half a turn apart, the clockwise one comes later
abbrev pub by_turn : Direction → Direction → Ordering
by_turn a b = int_cmp (turn a b) (pos 0)

-- the order in which two are met clockwise from a first one, which comes before all others
abbrev pub turn_cmp : Direction → Direction → Direction → Ordering
turn_cmp f = then_cmp (on (place f) nat_cmp) by_turn

-- the first one's place is the last
abbrev pub last_quarter : Ordering → Ordering → ℕ
last_quarter Less d = 1
last_quarter Greater d = 3
last_quarter Equal Less = 2
last_quarter Equal Equal = 2
last_quarter Equal Greater = 4

abbrev pub last_place : Direction → Direction → ℕ
last_place f a = last_quarter (int_cmp (turn f a) (pos 0)) (int_cmp (along f a) (pos 0))

-- the order in which two are met clockwise from just after a first one, which comes after all others
abbrev pub next_cmp : Direction → Direction → Direction → Ordering
next_cmp f = then_cmp (on (last_place f) nat_cmp) by_turn
