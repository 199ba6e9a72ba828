use Rattle.plane_graphs.proofs.Edges.{curves_of_edge as the_law}
use Rattle.plane_graphs.proofs.curves_of_edge.Goals as goal

pub returns : goal.returns
returns c = the_law
