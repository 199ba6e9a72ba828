use Rattle.std.proofs.Common.{◌≡◌, false, take}
use Rattle.std.specs.List.{list_any}
use Rattle.observer_bus.specs.Calls.{is_seated_as}
use Rattle.observer_bus.proofs.round.seat_at.Given as goal

abbrev pub invariant-loop-i : goal.invariant-loop-i
invariant-loop-i g l = list_any (λ s. is_seated_as l.name s.join s.name) (take l.i l.seats) ≡ false
