use Rattle.slab_faces.proofs.NextLemmas.{next_keeps_face}
use Rattle.slab_faces.proofs.computed_next_keeps_face.Goals as goal

pub returns : goal.returns
returns c = next_keeps_face
