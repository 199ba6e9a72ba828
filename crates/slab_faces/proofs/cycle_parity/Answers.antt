use Rattle.slab_faces.proofs.CyclesLemmas.{cycle_parity}
use Rattle.slab_faces.proofs.cycle_parity.Goals as goal

pub returns : goal.returns
returns c = cycle_parity
