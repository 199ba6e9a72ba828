use Rattle.face_steps.proofs.FacesStay.{faces_stay_named}
use Rattle.face_steps.proofs.faces_stay_named.Goals as goal

pub returns : goal.returns
returns c = faces_stay_named
