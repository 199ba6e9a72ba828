use Rattle.plane_graphs.proofs.Crossed.{none_cross as the_law}
use Rattle.plane_graphs.proofs.none_cross.Goals as goal

pub returns : goal.returns
returns c = the_law
