use Rattle.std.proofs.Common.{arith}
use Rattle.curve_history.proofs.Placing.{climb, climbed_at, climbed_to, climb_on, climbed_all}
use Rattle.curve_history.proofs.Walking.{less_on, at_node_on}
use Rattle.curve_history.proofs.walks.last_above.Goals as goal

pub walk-init : goal.walk-init
walk-init c = climb _ _ _ _ c.first-at.ensures

pub entry-requires : goal.entry-requires
entry-requires c = at_node_on _ _ _ _ (c.laws.ensures.whole _) c.in-Some.is (climbed_at _ _ _ _ _ (c.laws.ensures.whole _) c.walk.invariant)

pub returns-then-entry-strand : goal.returns-then-entry-strand
returns-then-entry-strand c = climbed_to _ _ _ _ _ (c.laws.ensures.whole _) c.walk.invariant _ _ c.in-Some.is c.entry.ensures c.if-entry-strand.true

pub walk-smaller : goal.walk-smaller
walk-smaller c = less_on _ _ _ _ _ (c.laws.ensures.whole _) c.in-Some.is (climbed_at _ _ _ _ _ (c.laws.ensures.whole _) c.walk.invariant) c.after-at.ensures

pub walk-preserved : goal.walk-preserved
walk-preserved c = climb_on _ _ _ _ _ (c.laws.ensures.whole _) c.walk.invariant _ _ c.in-Some.is c.entry.ensures (omega arith) _ c.after-at.ensures

pub returns : goal.returns
returns c = climbed_all _ _ _ _ _ (c.laws.ensures.whole _) c.walk.invariant c.in_default.is
