use Rattle.std.proofs.Common.{arith, ◌∙◌, sym, ap, refl, subst, true}
use Rattle.locate_trapezoid.specs.declared.node.Slot.TheVariants.{Child}
use Rattle.locate_trapezoid.specs.declared.node.Test.{Test}
use Rattle.locate_trapezoid.specs.Counted.{IsTest}
use Rattle.locate_trapezoid.specs.Nodes.{arena, at_root, further}
use Rattle.locate_trapezoid.specs.Ways.{label, outcome, start, step}
use Rattle.locate_trapezoid.proofs.Asked.{turned, is_met}
use Rattle.locate_trapezoid.proofs.Paths.{rank_falls, child_later, down_rank}
use Rattle.locate_trapezoid.proofs.arrival.arrive.Goals as goal

pub down-init : goal.down-init
down-init g c = record { at = start _ _ refl refl; down = at_root; looks = omega arith }

pub node-test-requires : goal.node-test-requires
node-test-requires g c = c.requires.tree.bounded c.down.leaf.slot c.in-Some.number (sym c.child.ensures ∙ c.in-Some.is)

pub ask-order-requires-clause-test : goal.ask-order-requires-clause-test
ask-order-requires-clause-test g c =
    subst (λ n. IsTest c.args.glance.now.graph n.test) (sym c.node-test.ensures)
    (c.requires.named c.in-Some.number (c.requires.tree.bounded c.down.leaf.slot c.in-Some.number (sym c.child.ensures ∙ c.in-Some.is)))

pub returns-then-is_eq-clause-arrival : goal.returns-then-is_eq-clause-arrival
returns-then-is_eq-clause-arrival g c = record {
  slot = c.down.leaf.slot;
  told = c.down.below;
  number = c.in-Some.number;
  at = c.down.invariant.at;
  there = sym c.child.ensures ∙ c.in-Some.is;
  asks = ap (λ n. n.test) (sym c.node-test.ensures);
  met = sym c.ask-order.ensures.outcome ∙ is_met c.ask-order.result c.is_eq.result c.is_eq.ensures c.if-is_eq.true;
}

pub returns-then-is_eq-clause-looks : goal.returns-then-is_eq-clause-looks
returns-then-is_eq-clause-looks g c = λ d deep.
    let m = deep.most _ _ (further c.down.leaf.slot c.down.leaf.level c.in-Some.number true c.down.invariant.down (sym c.child.ensures ∙ c.in-Some.is)) in
    omega (arith, c.ask-order.ensures.one, c.down.invariant.looks)

pub overflow_add-leaf : goal.overflow_add-leaf
overflow_add-leaf g c =
    let a = arena c.args.nodes.now in
    let h = sym c.child.ensures ∙ c.in-Some.is in
    let k = down_rank a c.requires.tree c.down.leaf.slot c.down.leaf.level c.down.invariant.down in
    let m = child_later a c.requires.tree c.down.leaf.slot c.in-Some.number h in
    let n = c.requires.tree.bounded c.down.leaf.slot c.in-Some.number h in
    omega arith

pub down-preserved : goal.down-preserved
down-preserved g c =
    let v = c.args.glance.now.graph in
    let h = sym c.child.ensures ∙ c.in-Some.is in
    let t = ap (λ n. n.test) c.node-test.ensures in
    record {
      at = step (Child c.in-Some.number c.is_gt-is_more.result) c.label-below.result c.down.leaf.slot c.down.below c.in-Some.number c.is_gt-is_more.result c.down.invariant.at h
          (ap (λ (z : Test). outcome v z c.args.point.now) (sym t) ∙ sym c.ask-order.ensures.outcome ∙ turned c.ask-order.result c.is_eq.result c.is_gt-is_more.result c.is_eq.ensures c.if-is_eq.false c.is_gt-is_more.ensures)
          refl
          (c.label-below.ensures ∙ ap (λ (z : Test). label z c.is_gt-is_more.result c.down.below) t);
      down = further c.down.leaf.slot c.down.leaf.level c.in-Some.number c.is_gt-is_more.result c.down.invariant.down h;
      looks = omega (arith, c.ask-order.ensures.one, c.down.invariant.looks);
    }

pub down-smaller : goal.down-smaller
down-smaller g c = rank_falls (arena c.args.nodes.now) c.requires.tree c.down.leaf.slot (Child c.in-Some.number c.is_gt-is_more.result) c.in-Some.number c.is_gt-is_more.result (sym c.child.ensures ∙ c.in-Some.is) refl

pub returns-clause-arrival : goal.returns-clause-arrival
returns-clause-arrival g c = (record { down = c.down.invariant.down; bare = sym c.child.ensures ∙ c.in_default.is }, c.down.invariant.at)

pub returns-clause-looks : goal.returns-clause-looks
returns-clause-looks g c = λ d deep. let m = deep.most c.down.leaf.slot c.down.leaf.level c.down.invariant.down in omega (arith, c.down.invariant.looks)
