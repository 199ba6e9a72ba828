use Rattle.side_parts.proofs.Walked.{gathered_all, gathered_first, gathered_on}
use Rattle.side_parts.proofs.parts.all_parts.Goals as goal

pub each-init : goal.each-init
each-init c = gathered_first _ _ _ c.in_ok-parts.ensures.items

pub each-preserved : goal.each-preserved
each-preserved c = gathered_on _ _ _ _ c.each.invariant c.index-sides-place.result c.each-test.true c.index-sides-place.is _ c.in_ok-add_parts.ensures

pub returns : goal.returns
returns c = gathered_all _ _ _ _ c.each.invariant c.each-test.false
