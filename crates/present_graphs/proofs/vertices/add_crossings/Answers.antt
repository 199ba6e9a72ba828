use Rattle.std.proofs.Common.{◌∙◌, ap, sym, subst}
use Rattle.std.proofs.lemmas.List.{take_all}
use Rattle.present_graphs.specs.Shared.{IsShared, IsSharedWith, IsGrownBy}
use Rattle.present_graphs.proofs.Grown.{grown_one, grown_still, one_other_more}
use Rattle.present_graphs.proofs.vertices.add_crossings.Goals.{in-Some+in_ok-push, in_default}
use Rattle.present_graphs.proofs.vertices.add_crossings.Goals as goal

pub returns : goal.returns
returns c = subst (λ ts. IsGrownBy (IsSharedWith c.args.span.now ts) c.args.points.now.items c.loop-other.points.items) (take_all c.loop-other.other-index c.args.others.now c.loop-other-test.false) c.loop-other.invariant

pub loop-other-preserved : goal.loop-other-preserved
loop-other-preserved c =
    let s = c.args.span.now in
    let t = c.other-item.result in
    let now = c.loop-other.points.items in
    let r = c.crossing.result in
    one_other_more s c.args.others.now c.loop-other.other-index t c.loop-other-test.true c.other-item.is c.args.points.now.items now c.match-crossing.points.items c.loop-other.invariant
    (elim c.match-crossing.branch [
      | in-Some+in_ok-push w ↦ grown_one s t r w.in-Some.point now c.match-crossing.points.items c.crossing.ensures w.in-Some.is (ap (λ v. v.items) w.points-is ∙ w.in_ok-push.ensures.items)
      | in_default w ↦ subst (IsGrownBy (IsShared s t) now) (sym (ap (λ v. v.items) w.points-is)) (grown_still s t r now c.crossing.ensures w.in_default.is)
    ])
