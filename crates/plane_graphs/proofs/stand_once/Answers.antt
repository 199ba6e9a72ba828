use Rattle.plane_graphs.proofs.Meaning.{stand_once as the_law}
use Rattle.plane_graphs.proofs.stand_once.Goals as goal

pub returns : goal.returns
returns c = the_law
