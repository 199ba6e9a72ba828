use Rattle.std.proofs.Common.{rules, arith}
use Rattle.std.proofs.lemmas.Grind.{common_steps}
use Rattle.planar_run.proofs.places.all_waiting.Goals as goal

pub loop-observer-init : goal.loop-observer-init
loop-observer-init c = search rules

pub loop-observer-preserved : goal.loop-observer-preserved
loop-observer-preserved c = grind (arith, common_steps)

pub returns : goal.returns
returns c = grind (arith, common_steps)
