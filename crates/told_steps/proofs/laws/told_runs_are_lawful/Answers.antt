use Rattle.told_steps.proofs.ToldTogether.{told_runs_lawful}
use Rattle.told_steps.proofs.laws.told_runs_are_lawful.Goals as goal

pub returns : goal.returns
returns c = told_runs_lawful
