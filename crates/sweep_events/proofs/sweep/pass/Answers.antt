use Rattle.std.proofs.Common.{sym, ◌∙◌}
use Rattle.sweep_events.proofs.FirstPoint.{passed_none, passed_far, passed_first}
use Rattle.sweep_events.proofs.sweep.pass.Goals as goal

pub returns-in_default : goal.returns-in_default
returns-in_default c = passed_none c.args.point.now c.args.queue.now.keys c.in_default.ensures.none

pub returns-then-lt : goal.returns-then-lt
returns-then-lt c = passed_far c.args.point.now c.in-Some.first c.args.queue.now.keys c.in-Some.ensures.some (sym c.lt.ensures ∙ c.if-lt.true)

pub returns : goal.returns
returns c =
    let pop = c.pop_first.ensures in
    passed_first c.args.point.now c.in-Some.first c.args.queue.now.keys c.requires c.in-Some.ensures.some (sym c.lt.ensures ∙ c.if-lt.false) c.pop_first.result c.pop_first.new.self.keys pop.variant.1 pop.removal pop.all_above
