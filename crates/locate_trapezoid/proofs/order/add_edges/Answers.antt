use Rattle.std.proofs.Common.{◌≡◌, ◌∙◌, sym, ap, inl, inr, false, subst, List}
use Rattle.std.specs.List.{Contains}
use Rattle.std.proofs.lemmas.Bool.{false≢true}
use Rattle.record_orders.specs.declared.darts.DartKey.{DartKey}
use Rattle.record_orders.specs.Keys.{dart_key, dart_keys}
use Rattle.locate_trapezoid.specs.declared.node.Test.TheVariants.{Edge}
use Rattle.locate_trapezoid.proofs.Orders.{is_ahead, none_added, one_added, all_added, dart_of_key, key_of_dart}
use Rattle.locate_trapezoid.proofs.order.add_edges.Goals as goal

pub keys-init : goal.keys-init
keys-init g c = none_added (g.R.Darts.graph c.args.records.now) c.deref-key-items.result.now (λ k. Edge k.name) (λ k. is_ahead k ≡ false) c.args.tests.now.items c.requires.tests

pub keys-preserved : goal.keys-preserved
keys-preserved g c =
    let v = g.R.Darts.graph c.args.records.now in
    let k = c.key-item.result in
    let keys = c.deref-key-items.result.now in
    let is : keys ≡ dart_keys v = c.deref-key-items.ensures.value ∙ c.in_ok-keys.ensures in
    let x = dart_of_key v c.requires.sound k (subst (λ (l : List DartKey). Contains l k) is (c.keys.key-index, c.keys-test.true, sym c.key-item.is)) in
    one_added v keys (λ k. Edge k.name) (λ k. is_ahead k ≡ false) c.args.tests.now.items c.keys.tests.items c.add.new.tests.items c.keys.key-index k c.is_forward.result
    c.keys-test.true c.key-item.is c.in_ok-add.ensures
    (λ h. (x.0, ap is_ahead (sym x.1) ∙ sym c.is_forward.ensures ∙ h))
    (λ h. sym c.is_forward.ensures ∙ h)
    c.keys.invariant

pub returns-clause-edges : goal.returns-clause-edges
returns-clause-edges g c = λ d f.
    let v = g.R.Darts.graph c.args.records.now in
    let keys = c.deref-key-items.result.now in
    let is : keys ≡ dart_keys v = c.deref-key-items.ensures.value ∙ c.in_ok-keys.ensures in
    elim (all_added v keys (λ k. Edge k.name) (λ k. is_ahead k ≡ false) c.args.tests.now.items c.keys.tests.items c.keys.key-index (dart_key v d) c.keys-test.false (subst (λ (l : List DartKey). Contains l (dart_key v d)) (sym is) (key_of_dart v c.requires.sound d f.0)) c.keys.invariant) [
      | inl y ↦ y
      | inr y ↦ absurd (false≢true (sym y ∙ f.1))
    ]
