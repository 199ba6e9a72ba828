use Rattle.zone_walk.proofs.PartLaws.{first_reached_is_on_boundary}
use Rattle.zone_walk.proofs.first_reached_is_on_boundary.Goals as goal

pub returns : goal.returns
returns c = first_reached_is_on_boundary
