use Rattle.face_changes.proofs.FaceNames.{face_names_stay}
use Rattle.face_changes.proofs.face_names_stay.Goals as goal

pub returns : goal.returns
returns g c = face_names_stay _
