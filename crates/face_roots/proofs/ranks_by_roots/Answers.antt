use Rattle.face_roots.proofs.OuterRanks.{ranks_by_roots}
use Rattle.face_roots.proofs.ranks_by_roots.Goals as goal

pub returns : goal.returns
returns c = ranks_by_roots
