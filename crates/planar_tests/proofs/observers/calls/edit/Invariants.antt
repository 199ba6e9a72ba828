use Rattle.observer_bus.specs.Rows.{bus_row}
use Rattle.planar_tests.specs.Calm.{IsCalm, IsReady}
use Rattle.planar_tests.proofs.observers.calls.edit.Given as goal

abbrev pub invariant-turns : goal.invariant-turns
invariant-turns g l = record {
  calm : IsCalm (bus_row (goal.Observer-dyn g) l.bus);
  ready : IsReady (bus_row (goal.Observer-dyn g) l.bus);
}
