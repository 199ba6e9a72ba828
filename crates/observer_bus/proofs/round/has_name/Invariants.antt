use Rattle.std.proofs.Common.{◌≡◌, ◌==◌, drop}
use Rattle.std.specs.List.{list_any}
use Rattle.observer_bus.proofs.round.has_name.Given as goal

abbrev pub invariant-loop-seat : goal.invariant-loop-seat
invariant-loop-seat g l = list_any (λ s. s.name == l.name) l.seats ≡ list_any (λ s. s.name == l.name) (drop l.seat-index l.seats)
