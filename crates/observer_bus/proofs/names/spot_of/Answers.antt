use Rattle.std.proofs.Common.{refl, arith}
use Rattle.observer_bus.proofs.Placing.{placed_there, placed_before, placed_after, placed_last}
use Rattle.observer_bus.proofs.names.spot_of.Goals as goal

pub loop-at-init : goal.loop-at-init
loop-at-init c = refl

pub returns-then-other-name-clause-there : goal.returns-then-other-name-clause-there
returns-then-other-name-clause-there c = λ e. placed_there _ _ c.loop-at.at c.loop-at.invariant (omega arith) c.if-other-name.true

pub returns-then-name-other-clause-missing : goal.returns-then-name-other-clause-missing
returns-then-name-other-clause-missing c = placed_before _ _ c.loop-at.at c.loop-at.invariant (omega arith) (omega arith)

pub loop-at-preserved : goal.loop-at-preserved
loop-at-preserved c = placed_after _ _ c.loop-at.at c.loop-at.invariant (omega arith) (omega arith)

pub returns-clause-missing : goal.returns-clause-missing
returns-clause-missing c = placed_last _ _ c.loop-at.at c.loop-at.invariant (omega arith)
