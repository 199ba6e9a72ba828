use Rattle.std.proofs.Common.{◌∙◌, arith}
use Rattle.mirror_observer.specs.Lists.{placed_from}
use Rattle.mirror_observer.proofs.Placing.{gained_all}
use Rattle.mirror_observer.proofs.curves.with_curve.Goals as goal

pub returns : goal.returns
returns c = c.in_ok-finish.ensures ∙ gained_all (λ ks. placed_from c.args.curve.0 c.loop-next.come ks) _ c.args.curves.now c.loop-next.next-index c.loop-next.more (omega arith) c.loop-next.invariant
