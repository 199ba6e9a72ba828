use Rattle.plane_graphs.proofs.Laws.{graph_is_plane as the_law}
use Rattle.plane_graphs.proofs.graph_is_plane.Goals as goal

pub returns : goal.returns
returns c = the_law
