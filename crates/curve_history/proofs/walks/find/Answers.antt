use Rattle.std.proofs.Common.{◌≡◌, Some, refl, sym, subst, ◌∙◌}
use Rattle.linked_chains.specs.Chains.{entry_at}
use Rattle.curve_history.specs.HistoryInMemory.{entry, Says}
use Rattle.edit_steps.specs.EditLaws.{curve_of}
use Rattle.curve_history.proofs.Twins.{says_beside, found_beside}
use Rattle.curve_history.proofs.Walking.{seek, seek_on, found, not_found, less_on, at_node_on}
use Rattle.curve_history.proofs.walks.find.Goals as goal

pub walk-init : goal.walk-init
walk-init c = record { one = seek _ _ (λ i. curve_of i ≡ c.args.curve) _ c.first-at.ensures; other = seek _ _ (λ i. i ≡ c.args.edge) _ c.first-beside.ensures }

pub entry-requires : goal.entry-requires
entry-requires c = at_node_on _ _ _ _ (c.laws.ensures.whole _) c.in-Some.is c.walk.invariant.one.here

pub returns-then-curve_of-curve-clause-some : goal.returns-then-curve_of-curve-clause-some
returns-then-curve_of-curve-clause-some c =
    let here = found _ _ _ _ _ (c.laws.ensures.whole _) c.in-Some.is c.walk.invariant.one.here c.entry.ensures in
    (c.entry.result.item, here.0, sym c.curve_of.ensures ∙ c.if-curve_of-curve.true, here.1)

pub returns-in_default-beside-clause-none : goal.returns-in_default-beside-clause-none
returns-in_default-beside-clause-none c = λ i s e. not_found _ _ (λ i. i ≡ c.args.edge) _ (c.laws-2.ensures.whole _) c.walk.invariant.other c.in_default-beside.is c.args.edge refl (subst (λ k. Says c.args.curves.now k c.args.edge) e (says_beside _ _ _ _ c.requires.pairs s))

pub entry-said-requires : goal.entry-said-requires
entry-said-requires c = at_node_on _ _ _ _ (c.laws-2.ensures.whole _) c.in-Some-beside.is c.walk.invariant.other.here

pub returns-then-said-edge-clause-some : goal.returns-then-said-edge-clause-some
returns-then-said-edge-clause-some c =
    let here = found _ _ _ _ _ (c.laws-2.ensures.whole _) c.in-Some-beside.is c.walk.invariant.other.here c.entry-said.ensures in
    found_beside _ _ _ _ _ _ _ c.requires.pairs c.entry-said.ensures (subst (λ i. entry_at c.args.curves.now c.in-Some-beside.near ≡ Some (entry c.args.curve i here.0)) c.if-said-edge.true here.1)

pub walk-smaller : goal.walk-smaller
walk-smaller c = less_on _ _ _ _ _ (c.laws.ensures.whole _) c.in-Some.is c.walk.invariant.one.here c.after-at.ensures

pub walk-preserved : goal.walk-preserved
walk-preserved c = record {
  one = seek_on _ _ _ (λ i. curve_of i ≡ c.args.curve) _ _ _ (c.laws.ensures.whole _) c.in-Some.is c.walk.invariant.one c.entry.ensures (λ e. c.if-curve_of-curve.false (c.curve_of.ensures ∙ e)) c.after-at.ensures;
  other = seek_on _ _ _ (λ i. i ≡ c.args.edge) _ _ _ (c.laws-2.ensures.whole _) c.in-Some-beside.is c.walk.invariant.other c.entry-said.ensures c.if-said-edge.false c.after-beside.ensures;
}

pub returns-clause-none : goal.returns-clause-none
returns-clause-none c = λ i s e. not_found _ _ (λ i. curve_of i ≡ c.args.curve) _ (c.laws.ensures.whole _) c.walk.invariant.one c.in_default.is i e s
