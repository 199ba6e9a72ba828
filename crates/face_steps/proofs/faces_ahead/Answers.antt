use Rattle.face_steps.proofs.FaceAhead.{faces_ahead}
use Rattle.face_steps.proofs.faces_ahead.Goals as goal

pub returns : goal.returns
returns c = faces_ahead
