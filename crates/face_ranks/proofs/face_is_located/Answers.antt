use Rattle.face_ranks.proofs.Located.{face_is_located}
use Rattle.face_ranks.proofs.face_is_located.Goals as goal

pub returns : goal.returns
returns c = face_is_located
