use Rattle.plane_graphs.proofs.Meaning.{edges_are as the_law}
use Rattle.plane_graphs.proofs.edges_are.Goals as goal

pub returns : goal.returns
returns c = the_law
