use Rattle.face_changes.proofs.FacesByPairs.{faces_told_by_pairs}
use Rattle.face_changes.proofs.faces_told_by_pairs.Goals as goal

pub returns : goal.returns
returns c = faces_told_by_pairs
