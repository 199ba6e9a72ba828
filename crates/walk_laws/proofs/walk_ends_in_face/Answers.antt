use Rattle.walk_laws.proofs.Named.{walk_ends_in_face}
use Rattle.walk_laws.proofs.walk_ends_in_face.Goals as goal

pub returns : goal.returns
returns c = walk_ends_in_face
