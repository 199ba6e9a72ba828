use Rattle.slab_faces.proofs.OneEdge.{one_edge_at_most}
use Rattle.slab_faces.proofs.one_edge_at_most.Goals as goal

pub returns : goal.returns
returns c = one_edge_at_most
