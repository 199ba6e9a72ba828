use Rattle.slab_faces.proofs.CyclesOfFaces.{cycle_across_edge}
use Rattle.slab_faces.proofs.cycle_across_edge.Goals as goal

pub returns : goal.returns
returns c = cycle_across_edge
