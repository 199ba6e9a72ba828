use Rattle.std.proofs.Common.{◌≡◌, Some, refl, subst}
use Rattle.linked_chains.specs.Chains.{entry_at}
use Rattle.curve_history.specs.HistoryInMemory.{entry}
use Rattle.curve_history.proofs.Walking.{seek, seek_on, found, not_found, less_on, at_node_on}
use Rattle.curve_history.proofs.walks.find_strand.Goals as goal

pub walk-init : goal.walk-init
walk-init c = seek _ _ (λ i. i ≡ c.args.strand) _ c.first-at.ensures

pub entry-requires : goal.entry-requires
entry-requires c = at_node_on _ _ _ _ (c.laws.ensures.whole _) c.in-Some.is c.walk.invariant.here

pub returns-then-entry-strand-clause-some : goal.returns-then-entry-strand-clause-some
returns-then-entry-strand-clause-some c =
    let here = found _ _ _ _ _ (c.laws.ensures.whole _) c.in-Some.is c.walk.invariant.here c.entry.ensures in
    (here.0, subst (λ i. entry_at c.args.edges.now c.in-Some.node ≡ Some (entry c.args.edge i here.0)) c.if-entry-strand.true here.1)

pub walk-smaller : goal.walk-smaller
walk-smaller c = less_on _ _ _ _ _ (c.laws.ensures.whole _) c.in-Some.is c.walk.invariant.here c.after-at.ensures

pub walk-preserved : goal.walk-preserved
walk-preserved c = seek_on _ _ _ (λ i. i ≡ c.args.strand) _ _ _ (c.laws.ensures.whole _) c.in-Some.is c.walk.invariant c.entry.ensures c.if-entry-strand.false c.after-at.ensures

pub returns-clause-none : goal.returns-clause-none
returns-clause-none c = not_found _ _ (λ i. i ≡ c.args.strand) _ (c.laws.ensures.whole _) c.walk.invariant c.in_default.is c.args.strand refl
