use Rattle.std.proofs.Common.{rules, arith}
use Rattle.std.proofs.lemmas.Grind.{common_steps}
use Rattle.plain_slabs.proofs.cell_labels.gather.Goals as goal

pub loop-link-init : goal.loop-link-init
loop-link-init c = search rules

pub loop-link-preserved : goal.loop-link-preserved
loop-link-preserved c = grind (arith, common_steps)

pub returns : goal.returns
returns c = grind (arith, common_steps)
