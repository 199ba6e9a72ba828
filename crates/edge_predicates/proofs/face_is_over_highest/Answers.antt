use Rattle.edge_predicates.proofs.FaceBelow.{face_is_over_highest}
use Rattle.edge_predicates.proofs.face_is_over_highest.Goals as goal

pub returns : goal.returns
returns c = face_is_over_highest
