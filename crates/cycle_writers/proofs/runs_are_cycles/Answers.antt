use Rattle.cycle_writers.proofs.RunsUnited.{runs_are_cycles}
use Rattle.cycle_writers.proofs.runs_are_cycles.Goals as goal

pub returns : goal.returns
returns c = runs_are_cycles
