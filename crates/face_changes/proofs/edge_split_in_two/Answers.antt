use Rattle.face_changes.proofs.EdgeSplit.{edge_split_in_two}
use Rattle.face_changes.proofs.edge_split_in_two.Goals as goal

pub returns : goal.returns
returns c = edge_split_in_two
