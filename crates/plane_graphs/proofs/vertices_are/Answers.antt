use Rattle.plane_graphs.proofs.Meaning.{vertices_are as the_law}
use Rattle.plane_graphs.proofs.vertices_are.Goals as goal

pub returns : goal.returns
returns c = the_law
