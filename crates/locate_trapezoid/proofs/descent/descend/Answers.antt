use Rattle.std.proofs.Common.{arith, ◌∙◌, sym, ap, subst}
use Rattle.locate_trapezoid.specs.Counted.{IsTest}
use Rattle.locate_trapezoid.specs.Descents.{begins}
use Rattle.locate_trapezoid.specs.Nodes.{arena, at_root}
use Rattle.locate_trapezoid.proofs.Paths.{rank_falls, down_further, child_later, down_rank}
use Rattle.locate_trapezoid.proofs.descent.descend.Goals as goal

pub down-init : goal.down-init
down-init c = record { descent = begins; down = at_root }

pub node-test-requires : goal.node-test-requires
node-test-requires c = c.requires.tree.bounded c.down.last.leaf.slot c.in-Some.number (sym c.child.ensures ∙ c.in-Some.is)

pub overflow_add-last : goal.overflow_add-last
overflow_add-last c =
    let a = arena c.args.nodes.now in
    let h = sym c.child.ensures ∙ c.in-Some.is in
    let k = down_rank a c.requires.tree c.down.last.leaf.slot c.down.last.leaf.level c.down.invariant.down in
    let m = child_later a c.requires.tree c.down.last.leaf.slot c.in-Some.number h in
    let n = c.requires.tree.bounded c.down.last.leaf.slot c.in-Some.number h in
    omega arith

pub pass-last-requires-clause-test : goal.pass-last-requires-clause-test
pass-last-requires-clause-test c =
    subst (λ n. IsTest c.args.records.now.graph n.test) (sym c.node-test.ensures)
    (c.requires.named c.in-Some.number (c.requires.tree.bounded c.down.last.leaf.slot c.in-Some.number (sym c.child.ensures ∙ c.in-Some.is)))

pub down-preserved : goal.down-preserved
down-preserved c =
    let a = arena c.args.nodes.now in
    let h = sym c.child.ensures ∙ c.in-Some.is in
    let t = ap (λ n. n.test) (sym c.node-test.ensures) in
    record {
      descent = c.pass-last.ensures.descent a t h c.down.invariant.descent;
      down = down_further a c.requires.tree c.down.last.leaf.slot c.pass-last.result.leaf.slot c.down.last.leaf.level c.pass-last.result.leaf.level c.in-Some.number c.pass-last.ensures.child.0 c.down.invariant.down h c.pass-last.ensures.child.1 c.pass-last.ensures.level;
    }

pub down-smaller : goal.down-smaller
down-smaller c = rank_falls (arena c.args.nodes.now) c.requires.tree c.down.last.leaf.slot c.pass-last.result.leaf.slot c.in-Some.number c.pass-last.ensures.child.0 (sym c.child.ensures ∙ c.in-Some.is) c.pass-last.ensures.child.1

pub returns-clause-leaf : goal.returns-clause-leaf
returns-clause-leaf c = record { down = c.down.invariant.down; bare = sym c.child.ensures ∙ c.in_default.is }
