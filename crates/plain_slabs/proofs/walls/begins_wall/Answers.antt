use Rattle.std.proofs.Common.{ap}
use Rattle.std.specs.Prelude.{not}
use Rattle.slab_laws.specs.Faces.{is_lowest}
use Rattle.plain_slabs.proofs.walls.begins_wall.Goals as goal

pub returns : goal.returns
unfolding is_lowest
returns c = ap not c.has_lower.ensures
