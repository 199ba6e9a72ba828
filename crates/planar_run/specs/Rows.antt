-- The world of a script in memory, as contracts see it.
use Rattle.std.specs.Prelude.{◌≡◌, ◌≤◌, Bool, List, Option, length, map, option_map}
use Rattle.std.specs.declared.alloc.Global.{Global}
use Rattle.std.specs.declared.dyn_box.DynBox.{DynBox}
use Rattle.arrangement.specs.Arranged.{arranged, layer_in, Arranged, IsWatched}
use Rattle.arrangement.specs.declared.limits.TheConstants.Limits.{FULL}
use Rattle.slab_laws.specs.declared.names.Strategy.{Strategy}
use Rattle.observer_bus.specs.Rows.{Meanings, meaning}
use Rattle.observer_bus.specs.Seats.{SeatRow}
use Rattle.planar_run.specs.World.{Half, Seat, Waiting, World as Built}
use Rattle.planar_run.specs.declared.world.World.{World}

-- what a script knows of a seat
abbrev pub seat_row : SeatRow → Seat
seat_row s = record { name = s.name; join = s.join; leave = s.leave; tells = s.tells; left = s.left }

-- what a script knows of the arrangement that lines don't mean
abbrev pub half_in : Arranged → Half
half_in a = record { layer = layer_in a; seats = map seat_row a.bus.seats }

-- what it knows of the arrangement that lines mean, of the other, by which way points are located, whether the first is the blue one, and of the observers that wait
abbrev pub built : Arranged → Half → Strategy → Bool → List (Option Waiting) → Built
built a other strategy is_blue waiting = record {
  layer = layer_in a;
  seats = map seat_row a.bus.seats;
  waiting = waiting;
  other = other;
  is_blue = is_blue;
  strategy = strategy;
}

-- the limits are those of a script, at most eight observers are seated or planned, and each seated one that tells a view holds that of the records (this project)
pub record IsKept (a : Arranged) : Type 0 where
  pub limits : a.limits ≡ FULL
  pub few : length a.bus.seats ≤ 8
  pub watched : IsWatched a

-- both arrangements are kept so
pub record AreKept (a b : Arranged) : Type 0 where
  pub current : IsKept a
  pub other : IsKept b

module _ {X : Type 0} {F : X → Type 0} (m : Meanings X F) where
  -- an observer, as it waits
  abbrev pub waiting_row : DynBox X Global F → Waiting
  waiting_row b = record { tells = (meaning m b).tells b.value; left = (meaning m b).left b.value }

  -- observers, as they wait
  abbrev pub waiting_rows : List (DynBox X Global F) → List Waiting
  waiting_rows bs = map waiting_row bs

  -- the arrangement that lines mean
  abbrev pub arranged_row : World X F → Arranged
  arranged_row w = arranged m w.arrangement

  -- the one that they don't mean
  abbrev pub other_row : World X F → Arranged
  other_row w = arranged m w.other

  -- both of a world are kept
  abbrev pub IsKeptWorld : World X F → Type 0
  IsKeptWorld w = AreKept (arranged_row w) (other_row w)

  -- a world as contracts see it
  abbrev pub world_row : World X F → Built
  world_row w = built (arranged_row w) (half_in (other_row w)) w.strategy w.is_blue (map (option_map waiting_row) w.observers.items)
