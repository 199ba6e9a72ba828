use Rattle.observer_bus.specs.Rows.{bus_row}
use Rattle.planar_tests.specs.Calm.{IsCalm}
use Rattle.planar_tests.proofs.observers.calls.all_answered.Given as goal

abbrev pub invariant-calls : goal.invariant-calls
invariant-calls g l = IsCalm (bus_row (goal.Observer-dyn g) l.bus)
