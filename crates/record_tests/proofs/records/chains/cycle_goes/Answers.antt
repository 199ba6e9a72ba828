use Rattle.record_tests.proofs.ListsAsked.{no_dart}
use Rattle.record_tests.proofs.records.chains.cycle_goes.Goals as goal

pub remove_cycle-requires-clause-off : goal.remove_cycle-requires-clause-off
remove_cycle-requires-clause-off c d o e = no_dart c.args.records.now c.requires.darts d o
