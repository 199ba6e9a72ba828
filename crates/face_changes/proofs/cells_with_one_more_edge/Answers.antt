use Rattle.face_changes.proofs.OneMoreEdge.{cells_with_one_more_edge}
use Rattle.face_changes.proofs.cells_with_one_more_edge.Goals as goal

pub returns : goal.returns
returns c = cells_with_one_more_edge
