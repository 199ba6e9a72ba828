use Rattle.mirror_observer.proofs.Placing.{last_placed, none_placed}
use Rattle.mirror_observer.proofs.curves.finish.Goals as goal

pub returns-then-come : goal.returns-then-come
returns-then-come c = none_placed c.args.curve.0 c.args.come c.args.more.now c.if-come.true

pub returns : goal.returns
returns c = last_placed c.args.curve c.args.come c.args.more.now _ c.if-come.false c.in_ok-push.ensures.added
