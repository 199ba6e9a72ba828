use Rattle.slab_faces.proofs.FacesLemmas.{in_its_face, least_label}
use Rattle.slab_faces.proofs.labels_are_least.Goals as goal

pub returns : goal.returns
returns c = λ g c d plane h. (in_its_face g c plane, least_label g c d plane h)
