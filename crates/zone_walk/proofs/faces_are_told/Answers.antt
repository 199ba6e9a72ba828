use Rattle.zone_walk.proofs.PartLaws.{faces_are_told}
use Rattle.zone_walk.proofs.faces_are_told.Goals as goal

pub returns : goal.returns
returns c = faces_are_told
