use Rattle.std.proofs.Common.{◌≡◌, ◌++◌, take, drop}
use Rattle.std.specs.Ordering.{nat_cmp}
use Rattle.plane_graphs.specs.Ascending.{place}
use Rattle.observer_bus.proofs.names.spot_of.Given as goal

abbrev pub invariant-loop-at : goal.invariant-loop-at
invariant-loop-at l = place nat_cmp l.name l.names ≡ take l.at l.names ++ place nat_cmp l.name (drop l.at l.names)
