use Rattle.face_changes.proofs.OneMoreEdge.{faces_with_one_more_edge}
use Rattle.face_changes.proofs.faces_with_one_more_edge.Goals as goal

pub returns : goal.returns
returns c = faces_with_one_more_edge
