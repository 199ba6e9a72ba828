use Rattle.face_changes.proofs.OneMoreEdge.{sides_of_one_more_edge}
use Rattle.face_changes.proofs.sides_of_one_more_edge.Goals as goal

pub returns : goal.returns
returns c = sides_of_one_more_edge
