use Rattle.std.proofs.Common.{sym, ◌∙◌}
use Rattle.sweep_events.proofs.FirstPoint.{lower_alone, key_first, lower_first}
use Rattle.sweep_events.proofs.sweep.next_point.Goals as goal

pub returns-in_default-first_of-clause-some : goal.returns-in_default-first_of-clause-some
returns-in_default-first_of-clause-some c =
    let at = c.in-Some.ensures.lookup in
    lower_alone c.args.queue.now.keys c.args.starts.now c.args.begun c.requires c.in-Some.start.now at.3.0 at.1 c.in_default-first_of.ensures.none

pub returns-then-lt-clause-some : goal.returns-then-lt-clause-some
returns-then-lt-clause-some c =
    let at = c.in-Some.ensures.lookup in
    key_first c.args.queue.now.keys c.args.starts.now c.args.begun c.requires c.in-Some.start.now at.3.0 at.1 c.in-Some-first_of.point c.in-Some-first_of.ensures.some (sym c.lt.ensures ∙ c.if-lt.true)

pub returns-clause-some : goal.returns-clause-some
returns-clause-some c =
    let at = c.in-Some.ensures.lookup in
    lower_first c.args.queue.now.keys c.args.starts.now c.args.begun c.requires c.in-Some.start.now at.3.0 at.1 c.in-Some-first_of.point c.in-Some-first_of.ensures.some (sym c.lt.ensures ∙ c.if-lt.false)
