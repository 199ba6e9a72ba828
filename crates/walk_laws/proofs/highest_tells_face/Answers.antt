use Rattle.walk_laws.proofs.Named.{highest_tells_face}
use Rattle.walk_laws.proofs.highest_tells_face.Goals as goal

pub returns : goal.returns
returns c = highest_tells_face
