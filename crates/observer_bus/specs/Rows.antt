-- Seats in memory as rows: what their boxed observers mean is handed in by one word, `Observer-dyn`.
use Rattle.std.specs.Prelude.{◌≡◌, ◌⊎◌, Option, None, ℕ, List, map}
use Rattle.std.specs.declared.alloc.Global.{Global}
use Rattle.std.specs.declared.dyn_box.DynBox.{DynBox}
use Rattle.arr_notes.specs.declared.observer.Observer.{Ghosts}
use Rattle.observer_bus.specs.Seats.{SeatRow}
use Rattle.observer_bus.specs.Rounds.{BusRow}
use Rattle.observer_bus.specs.declared.bus.Bus.{Bus}
use Rattle.observer_bus.specs.declared.seat.Seat.{Seat}

-- what the observers behind boxes mean, each by the two parts of its box: `Observer-dyn` in a clause, `goal.Observer-dyn g` in a proof (this project)
abbrev pub Meanings : (X : Type 0) → (X → Type 0) → Type 1
Meanings X F = (o : (x : X) × F x) → Ghosts (F o.0)

module _ {X : Type 0} {F : X → Type 0} (m : Meanings X F) where
  -- what the observer in a box means
  abbrev pub meaning : (b : DynBox X Global F) → Ghosts (F b.vtable)
  meaning b = m (b.vtable, b.value)

  -- what was given is, in its box, the observer that came back, once it was told a snapshot and found no memory: one of the same type, that tells a view or not as before and counts no snapshot; what it holds and has heard then isn't known (this project)
  pub record HasRefusedSnapshot (given back : DynBox X Global F) : Type 0 where
    pub kind : back.vtable ≡ given.vtable
    pub tells : (meaning back).tells back.value ≡ (meaning given).tells given.value
    pub left : (meaning back).left back.value ≡ (meaning given).left given.value

  -- the box comes back as it was given, or once its observer was told a snapshot and found no memory (this project)
  abbrev pub IsHandedBack : DynBox X Global F → DynBox X Global F → Type 0
  IsHandedBack given back = (back ≡ given) ⊎ HasRefusedSnapshot given back

  -- an observer with a name and a plan to join, that has no plan to leave
  abbrev pub newcomer : ℕ → Option ℕ → DynBox X Global F → SeatRow
  newcomer k when b = record { name = k; join = when; leave = None; tells = (meaning b).tells b.value; held = (meaning b).held b.value; left = (meaning b).left b.value; heard = (meaning b).heard b.value }

  -- a seat, and what its observer means (this project)
  abbrev pub row : Seat X F → SeatRow
  row s = record {
    name = s.name;
    join = s.join;
    leave = s.leave;
    tells = (meaning s.observer).tells s.observer.value;
    held = (meaning s.observer).held s.observer.value;
    left = (meaning s.observer).left s.observer.value;
    heard = (meaning s.observer).heard s.observer.value;
  }

  -- seats, in their order (this project)
  abbrev pub rows : List (Seat X F) → List SeatRow
  rows ss = map row ss

  -- a bus as contracts see it (this project)
  abbrev pub bus_row : Bus X F → BusRow
  bus_row b = record { seats = rows b.seats.items; went = b.went; settled = b.settled }
