use Rattle.face_changes.proofs.OneMoreEdge.{one_outer_cycle}
use Rattle.face_changes.proofs.one_outer_cycle.Goals as goal

pub returns : goal.returns
returns c = one_outer_cycle
