use Rattle.face_changes.proofs.OneMoreEdge.{one_kind_each}
use Rattle.face_changes.proofs.cycles_are_of_one_kind.Goals as goal

pub returns : goal.returns
returns c = one_kind_each
