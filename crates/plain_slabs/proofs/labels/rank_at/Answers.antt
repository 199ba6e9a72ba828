use Rattle.plain_slabs.proofs.LayerLabels.{rank_is}
use Rattle.plain_slabs.proofs.labels.rank_at.Goals as goal

pub returns : goal.returns
returns c = rank_is c.plain.inside c.args.plain.now c.plain.invariant c.plain.view_is c.args.cell c.least_of.result c.deref.result.now c.rank_of.result c.least_of.ensures c.deref.ensures.value c.rank_of.ensures
