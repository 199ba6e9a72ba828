use Rattle.slab_faces.proofs.FacesLemmas.{one_label, one_face}
use Rattle.slab_faces.proofs.labels_are_faces.Goals as goal

pub returns : goal.returns
returns c = λ g c d plane. (one_label g c d plane, one_face g c d plane)
