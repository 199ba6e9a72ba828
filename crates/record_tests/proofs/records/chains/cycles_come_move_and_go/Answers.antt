use Rattle.std.proofs.Common.{ap}
use Rattle.slab_laws.specs.View.{View}
use Rattle.record_tests.proofs.records.chains.cycles_come_move_and_go.Goals as goal

pub cycles_come-right-requires-clause-darts : goal.cycles_come-right-requires-clause-darts
cycles_come-right-requires-clause-darts g c = ap (λ (v : View). v.darts) c.in_ok-records.ensures.empty
