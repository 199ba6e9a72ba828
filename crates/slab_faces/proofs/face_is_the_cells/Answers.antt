use Rattle.slab_faces.proofs.FaceOfPoint.{face_is_the_cells}
use Rattle.slab_faces.proofs.face_is_the_cells.Goals as goal

pub returns : goal.returns
returns c = face_is_the_cells
