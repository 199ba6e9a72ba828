use Rattle.std.proofs.Common.{sym}
use Rattle.curve_history.proofs.Abreast.{abreast, ends_second, ends_same, ends_differ, items_differ, abreast_on}
use Rattle.curve_history.proofs.Walking.{less_on, at_node_on}
use Rattle.curve_history.proofs.walks.says_same.Goals as goal

pub walk-init : goal.walk-init
walk-init c = abreast _ _ _ _ _ c.first-at.ensures c.first-beside.ensures

pub returns-in_default-beside-clause-differ : goal.returns-in_default-beside-clause-differ
returns-in_default-beside-clause-differ c = λ q. ends_second _ _ _ _ _ (c.laws.ensures.whole _) (c.laws.ensures.whole _) c.walk.invariant _ c.in-Some.is c.in_default-beside.is

pub entry-strand-requires : goal.entry-strand-requires
entry-strand-requires c = at_node_on _ _ _ _ (c.laws.ensures.whole _) c.in-Some.is c.walk.invariant.one.here

pub entry-requires : goal.entry-requires
entry-requires c = at_node_on _ _ _ _ (c.laws.ensures.whole _) c.in-Some-beside.is c.walk.invariant.other.here

pub returns-then-entry-strand-clause-differ : goal.returns-then-entry-strand-clause-differ
returns-then-entry-strand-clause-differ c = λ q. items_differ _ _ _ _ _ (c.laws.ensures.whole _) (c.laws.ensures.whole _) c.walk.invariant _ _ _ _ c.in-Some.is c.in-Some-beside.is c.entry-strand.ensures c.entry.ensures (λ e. c.if-entry-strand.true (sym e))

pub walk-smaller : goal.walk-smaller
walk-smaller c = less_on _ _ _ _ _ (c.laws.ensures.whole _) c.in-Some.is c.walk.invariant.one.here c.after-at.ensures

pub walk-preserved : goal.walk-preserved
walk-preserved c = abreast_on _ _ _ _ _ (c.laws.ensures.whole _) (c.laws.ensures.whole _) c.walk.invariant _ _ _ _ c.in-Some.is c.in-Some-beside.is c.entry-strand.ensures c.entry.ensures _ _ (sym c.if-entry-strand.false) c.after-at.ensures c.after-beside.ensures

pub returns-clause-same : goal.returns-clause-same
returns-clause-same c = ends_same _ _ _ _ _ (c.laws.ensures.whole _) (c.laws.ensures.whole _) c.walk.invariant _ c.in_default.is c.is_none.ensures

pub returns-clause-differ : goal.returns-clause-differ
returns-clause-differ c = ends_differ _ _ _ _ _ (c.laws.ensures.whole _) (c.laws.ensures.whole _) c.walk.invariant _ c.in_default.is c.is_none.ensures
