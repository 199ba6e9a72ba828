use Rattle.sweep_events.proofs.OneStatus.{part_status}
use Rattle.sweep_events.proofs.laws.part_of_status.Goals as goal

pub returns : goal.returns
returns c = part_status
