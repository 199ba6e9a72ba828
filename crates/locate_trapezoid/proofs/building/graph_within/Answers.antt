use Rattle.std.proofs.Common.{refl, sym, ◌∙◌}
use Rattle.locate_trapezoid.specs.Nodes.{no_node}
use Rattle.locate_trapezoid.proofs.Bounds.{nothing_within}
use Rattle.locate_trapezoid.proofs.Built.{none_built, one_built, all_built, same_items, item_in}
use Rattle.locate_trapezoid.proofs.building.graph_within.Goals as goal

pub tests-init : goal.tests-init
tests-init c = record {
  built = none_built c.args.records.now.graph c.deref-test-items.result.now (record { nodes = c.new.result; depth = 0 }) c.new.ensures.items refl;
  within = nothing_within (record { nodes = c.new.result; depth = 0 }) c.args.bound c.new.ensures.items refl;
}

pub put-requires-clause-test : goal.put-requires-clause-test
put-requires-clause-test c =
    c.requires.tests _
    (item_in c.args.tests.now c.deref-test-items.result.now
    (same_items c.args.tests.now c.args.tests.now c.in_ok-order.order.items c.deref-test-items.result.now refl c.deref-test-items.ensures.value c.in_ok-order.ensures)
    c.tests.test-index no_node.test c.tests-test.true)

pub put-requires-clause-made : goal.put-requires-clause-made
put-requires-clause-made c = c.tests.invariant.built.made

pub tests-preserved : goal.tests-preserved
tests-preserved c = record {
  built = one_built c.args.records.now.graph c.deref-test-items.result.now c.tests.graph c.put.new.graph c.tests.test-index no_node.test c.tests-test.true
      (c.requires.tests _
      (item_in c.args.tests.now c.deref-test-items.result.now
      (same_items c.args.tests.now c.args.tests.now c.in_ok-order.order.items c.deref-test-items.result.now refl c.deref-test-items.ensures.value c.in_ok-order.ensures)
      c.tests.test-index no_node.test c.tests-test.true))
      c.in_ok-put.ensures.made c.in_ok-put.ensures.put c.tests.invariant.built;
  within = sym c.is_within.ensures ∙ c.if-not-is_within.false;
}

pub returns-clause-graph : goal.returns-clause-graph
returns-clause-graph c =
    all_built c.args.records.now.graph c.requires.sound c.args.tests.now c.deref-test-items.result.now c.tests.graph c.tests.test-index c.tests-test.false
    (same_items c.args.tests.now c.args.tests.now c.in_ok-order.order.items c.deref-test-items.result.now refl c.deref-test-items.ensures.value c.in_ok-order.ensures)
    c.requires.edges c.requires.vertices c.tests.invariant.built
