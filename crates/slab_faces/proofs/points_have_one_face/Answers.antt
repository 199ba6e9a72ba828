use Rattle.slab_faces.proofs.PointLemmas.{points_have_one_face}
use Rattle.slab_faces.proofs.points_have_one_face.Goals as goal

pub returns : goal.returns
returns c = points_have_one_face
