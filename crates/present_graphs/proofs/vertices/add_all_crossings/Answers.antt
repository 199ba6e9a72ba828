use Rattle.std.proofs.Common.{subst}
use Rattle.std.proofs.lemmas.List.{take_all}
use Rattle.present_graphs.specs.Shared.{IsSharedWith, IsSharedByTwo, IsGrownBy}
use Rattle.present_graphs.proofs.Grown.{one_span_more}
use Rattle.present_graphs.proofs.vertices.add_all_crossings.Goals as goal

pub returns : goal.returns
returns c = subst (λ ss. IsGrownBy (IsSharedByTwo ss) c.args.points.now.items c.loop-i.points.items) (take_all c.loop-i.i c.args.spans.now c.loop-i-test.false) c.loop-i.invariant

pub loop-i-preserved : goal.loop-i-preserved
loop-i-preserved c =
    let s = c.index-spans-i.result in
    let now = c.loop-i.points.items in
    let new = c.add_crossings.new.points.items in
    one_span_more c.args.spans.now c.loop-i.i s c.loop-i-test.true c.index-spans-i.is c.args.points.now.items now new c.loop-i.invariant
    (subst (λ ss. IsGrownBy (IsSharedWith s ss) now new) c.split_at.ensures.front c.in_ok-add_crossings.ensures)
