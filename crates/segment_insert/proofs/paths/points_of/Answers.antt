use Rattle.segment_insert.proofs.PathSides.{listed_all, listed_first, listed_on}
use Rattle.segment_insert.proofs.paths.points_of.Goals as goal

pub each-init : goal.each-init
each-init c = listed_first _ _ c.in_ok-points.ensures.items

pub each-preserved : goal.each-preserved
each-preserved c = listed_on _ _ _ c.each.invariant c.meeting-item.result c.each-test.true c.meeting-item.is _ c.in_ok-push.ensures.items

pub returns : goal.returns
returns c = listed_all _ _ _ c.each.invariant c.each-test.false
