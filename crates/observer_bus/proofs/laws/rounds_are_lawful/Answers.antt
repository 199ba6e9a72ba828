use Rattle.observer_bus.proofs.Hearing.{rounds_lawful}
use Rattle.observer_bus.proofs.laws.rounds_are_lawful.Goals as goal

pub returns : goal.returns
returns c = rounds_lawful
