use Rattle.zone_walk.proofs.PartLaws.{parts_have_a_face}
use Rattle.zone_walk.proofs.parts_have_a_face.Goals as goal

pub returns : goal.returns
returns c = parts_have_a_face
