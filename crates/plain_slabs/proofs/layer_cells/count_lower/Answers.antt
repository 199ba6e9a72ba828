use Rattle.std.proofs.Common.{rules}
use Rattle.plain_slabs.specs.LayerEdges.{count_below}
use Rattle.plain_slabs.proofs.layer_cells.count_lower.Goals as goal

pub returns : goal.returns
unfolding count_below
returns c = search rules
