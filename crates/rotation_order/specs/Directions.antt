-- Directions in the order in which they are met clockwise from straight down.
use Rattle.std.specs.Prelude.{ℕ, Bool, true, false, pos, negsuc, ◌&&◌, ◌||◌, ◌==◌}
use lib.Dec.{ltb}
use lib.Signed.{lt_z}
use Rattle.exact_plane.specs.Direction.{Direction, direction_of, opposite, turn}
use Rattle.exact_plane.specs.Line.{Line, IsOn}
use Rattle.plane_graphs.specs.Line.{IsProperLine}
use Rattle.slab_laws.specs.Darts.{Dart}
use Rattle.rotation_order.specs.EdgeParts.{IsForwardEdge}

-- by whether it goes to the left, to the right, downwards: to the left 0, up 1, to the right 2, down 3 (this project)
abbrev pub quarter_by : Bool → Bool → Bool → ℕ
quarter_by true right downward = 0
quarter_by false true downward = 2
quarter_by false false false = 1
quarter_by false false true = 3

-- in which of the four ways a direction goes, clockwise from straight down (this project)
abbrev pub quarter : Direction → ℕ
quarter d = quarter_by (lt_z d.x (pos 0)) (lt_z (pos 0) d.x) (lt_z d.y (pos 0))

-- a is met before b, clockwise from straight down, which is met last (CGAL manual, circulator around a vertex)
abbrev pub direction_before : Direction → Direction → Bool
direction_before a b = ltb (quarter a) (quarter b) || ((quarter a == quarter b) && lt_z (turn a b) (pos 0))

-- the direction of a line, or its opposite for a dart that goes backward (this project)
abbrev pub dart_direction : Line → Bool → Direction
dart_direction l true = direction_of l
dart_direction l false = opposite (direction_of l)

-- straight down (this project)
abbrev pub straight_down : Direction
straight_down = record { x = pos 0; y = negsuc 0 }

-- the dart's edge lies on the line (Fogel, Halperin and Wein: supporting line)
pub record IsAlong (d : Dart) (l : Line) : Type 0 where
  pub edge : IsForwardEdge d.edge
  pub line : IsProperLine l
  pub low_on : IsOn l d.edge.low
  pub high_on : IsOn l d.edge.high
