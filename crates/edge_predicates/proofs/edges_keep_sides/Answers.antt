use Rattle.edge_predicates.proofs.SidesKept.{edges_keep_sides}
use Rattle.edge_predicates.proofs.edges_keep_sides.Goals as goal

pub returns : goal.returns
returns c = edges_keep_sides
