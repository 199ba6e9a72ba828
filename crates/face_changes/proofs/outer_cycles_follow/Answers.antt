use Rattle.face_changes.proofs.FacesByPairs.{outer_cycles_follow}
use Rattle.face_changes.proofs.outer_cycles_follow.Goals as goal

pub returns : goal.returns
returns c = outer_cycles_follow
