use Rattle.std.proofs.Common.{refl, arith}
use Rattle.curve_history.proofs.Walking.{count_first, count_within, count_on, all_counted, less_on, at_node_on}
use Rattle.curve_history.proofs.walks.count_along.Goals as goal

pub walk-init : goal.walk-init
walk-init c = count_first _ _ _ c.first-at.ensures

pub after-at-requires : goal.after-at-requires
after-at-requires c = at_node_on _ _ _ _ (c.laws.ensures.whole _) c.in-Some.is c.walk.invariant.here

pub walk-smaller : goal.walk-smaller
walk-smaller c = less_on _ _ _ _ _ (c.laws.ensures.whole _) c.in-Some.is c.walk.invariant.here c.after-at.ensures

pub returns : goal.returns
returns c = all_counted _ _ _ _ c.in_default.is c.walk.invariant

pub walk-preserved : goal.walk-preserved
walk-preserved c = count_on _ _ _ _ _ _ _ (c.laws.ensures.whole _) c.in-Some.is c.walk.invariant refl c.after-at.ensures

pub overflow_add-count : goal.overflow_add-count
overflow_add-count c =
    let h = count_within _ _ _ _ _ (c.laws.ensures.whole _) c.in-Some.is c.walk.invariant in
    let f = c.laws.ensures.few c.args.edge in
    omega arith
