use Rattle.overlay_laws.proofs.NamedFaces.{labels_name_faces}
use Rattle.overlay_laws.proofs.labels_name_faces.Goals as goal

pub returns : goal.returns
returns c = labels_name_faces
