use Rattle.std.proofs.Common.{rules}
use Rattle.plain_slabs.specs.PlaceTables.{count_below}
use Rattle.plain_slabs.proofs.places.count_lower.Goals as goal

pub returns : goal.returns
unfolding count_below
returns c = search rules
