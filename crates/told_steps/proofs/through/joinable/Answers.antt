use Rattle.std.proofs.Common.{◌∙◌, sym, ap}
use Rattle.curve_history.specs.Past.{strands_on}
use Rattle.told_steps.proofs.Straight.{one_first, one_second}
use Rattle.told_steps.proofs.through.joinable.Goals as goal

pub returns-then-same_strands : goal.returns-then-same_strands
returns-then-same_strands c = (c.in_ok-d.ensures, c.same_strands.ensures.same c.if-same_strands.true)

pub returns-else-same_strands : goal.returns-else-same_strands
returns-else-same_strands c d n j =
    let v = c.args.records.now.graph in
    let h = strands_on c.args.history.now in
    let f = c.in_ok-d.ensures in
    c.same_strands.ensures.differ c.if-same_strands.false
    (ap h (one_first v c.args.w c.requires.sound c.in_ok-d.d c.in_ok-d.n f d n j.0) ∙ j.1 ∙ sym (ap h (one_second v c.args.w c.requires.sound c.in_ok-d.d c.in_ok-d.n f d n j.0)))
