use Rattle.std.proofs.Common.{rules, arith}
use Rattle.std.proofs.lemmas.Grind.{common_steps}
use Rattle.sweep_events.proofs.places.part.Goals as goal

pub loop-place-init : goal.loop-place-init
loop-place-init c = search rules

pub loop-place-preserved : goal.loop-place-preserved
loop-place-preserved c = grind (arith, common_steps)

pub returns-clause-ends : goal.returns-clause-ends
returns-clause-ends c = grind (arith, common_steps)

pub returns-clause-others : goal.returns-clause-others
returns-clause-others c = grind (arith, common_steps)
