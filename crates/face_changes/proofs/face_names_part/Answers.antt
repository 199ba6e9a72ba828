use Rattle.face_changes.proofs.FaceNames.{face_names_part}
use Rattle.face_changes.proofs.face_names_part.Goals as goal

pub returns : goal.returns
returns g c = face_names_part _
