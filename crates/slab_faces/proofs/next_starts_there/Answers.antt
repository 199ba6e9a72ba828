use Rattle.slab_faces.proofs.CyclesOfFaces.{next_starts_there}
use Rattle.slab_faces.proofs.next_starts_there.Goals as goal

pub returns : goal.returns
returns c = next_starts_there
