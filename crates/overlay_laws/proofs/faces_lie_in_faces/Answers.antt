use Rattle.overlay_laws.proofs.Points.{faces_lie_in_faces}
use Rattle.overlay_laws.proofs.faces_lie_in_faces.Goals as goal

pub returns : goal.returns
returns c = faces_lie_in_faces
