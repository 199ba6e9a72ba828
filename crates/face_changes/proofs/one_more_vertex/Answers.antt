use Rattle.face_changes.proofs.OneMoreVertex.{one_more_vertex}
use Rattle.face_changes.proofs.one_more_vertex.Goals as goal

pub returns : goal.returns
returns c = one_more_vertex
