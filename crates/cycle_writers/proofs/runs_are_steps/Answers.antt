use Rattle.cycle_writers.proofs.RunSteps.{runs_are_steps}
use Rattle.cycle_writers.proofs.runs_are_steps.Goals as goal

pub returns : goal.returns
returns c = runs_are_steps
