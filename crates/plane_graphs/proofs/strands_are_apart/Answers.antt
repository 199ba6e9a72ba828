use Rattle.plane_graphs.proofs.Strands.{strands_are_apart}
use Rattle.plane_graphs.proofs.strands_are_apart.Goals as goal

-- src/lib.rt:56:1
pub returns : goal.returns
returns c = strands_are_apart
