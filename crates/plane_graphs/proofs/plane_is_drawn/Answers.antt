use Rattle.plane_graphs.proofs.Meaning.{plane_is_drawn as the_law}
use Rattle.plane_graphs.proofs.plane_is_drawn.Goals as goal

pub returns : goal.returns
returns c = the_law
