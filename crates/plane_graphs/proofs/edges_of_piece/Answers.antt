use Rattle.plane_graphs.proofs.Edges.{edges_of_piece as the_law}
use Rattle.plane_graphs.proofs.edges_of_piece.Goals as goal

pub returns : goal.returns
returns c = the_law
