use Rattle.face_roots.proofs.FaceLinks.{links_tell_faces}
use Rattle.face_roots.proofs.links_tell_faces.Goals as goal

pub returns : goal.returns
returns c = links_tell_faces
