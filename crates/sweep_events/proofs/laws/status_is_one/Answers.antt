use Rattle.sweep_events.proofs.OneStatus.{status_only}
use Rattle.sweep_events.proofs.laws.status_is_one.Goals as goal

pub returns : goal.returns
returns c = status_only
