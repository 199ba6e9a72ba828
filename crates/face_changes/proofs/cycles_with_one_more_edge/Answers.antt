use Rattle.face_changes.proofs.OneMoreEdge.{cycles_with_one_more_edge}
use Rattle.face_changes.proofs.cycles_with_one_more_edge.Goals as goal

pub returns : goal.returns
returns c = cycles_with_one_more_edge
