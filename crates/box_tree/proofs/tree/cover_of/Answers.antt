use Rattle.box_tree.proofs.Covered.{all_within_anew}
use Rattle.box_tree.proofs.tree.cover_of.Goals as goal

pub returns : goal.returns
returns c = all_within_anew c.widened.result c.widened-2.result c.args.entry.now c.args.low.now.entries c.args.high.now.entries c.widened.ensures.first c.widened.ensures.all c.widened-2.ensures.first c.widened-2.ensures.all
