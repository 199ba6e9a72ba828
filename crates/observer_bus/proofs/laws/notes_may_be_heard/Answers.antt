use Rattle.observer_bus.proofs.Hearing.{notes_heard}
use Rattle.observer_bus.proofs.laws.notes_may_be_heard.Goals as goal

pub returns : goal.returns
returns c = notes_heard
