use Rattle.overlay_sweep.proofs.LabelRounds.{all_upto, all_beyond}
use Rattle.overlay_sweep.proofs.layers.count_upto.Goals as goal

pub returns-clause-upto : goal.returns-clause-upto
returns-clause-upto c = all_upto c.args.darts.now c.args.around.now c.requires c.args.vertex c.end_upto.result c.end_upto.ensures.cut c.end_upto.ensures.within

pub returns-clause-beyond : goal.returns-clause-beyond
returns-clause-beyond c = all_beyond c.args.darts.now c.args.around.now c.requires c.args.vertex c.end_upto.result c.end_upto.ensures.cut c.end_upto.ensures.within
