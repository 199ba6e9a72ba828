use Rattle.slab_faces.proofs.EveryFace.{outer_cycles_of_every_face}
use Rattle.slab_faces.proofs.outer_cycles_of_every_face.Goals as goal

pub returns : goal.returns
returns c = outer_cycles_of_every_face
