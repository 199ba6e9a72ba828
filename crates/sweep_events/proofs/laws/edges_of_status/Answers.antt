use Rattle.sweep_events.proofs.SlabEdges.{edges_of_status}
use Rattle.sweep_events.proofs.laws.edges_of_status.Goals as goal

pub returns : goal.returns
returns c = edges_of_status
