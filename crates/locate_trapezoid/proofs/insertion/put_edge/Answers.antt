use Rattle.std.proofs.Common.{◌∙◌, sym, ap, subst}
use Rattle.plane_graphs.specs.Graph.{Edge as PlaneEdge}
use Rattle.slab_laws.specs.SpansDrawn.{edge_of}
use Rattle.locate_trapezoid.specs.declared.node.Test.TheVariants.{Edge}
use Rattle.locate_trapezoid.specs.Graphs.{AreNamed}
use Rattle.locate_trapezoid.specs.Nodes.{arena, IsTree, IsLeaf}
use Rattle.locate_trapezoid.proofs.Parts.{IsSoFar, all_in}
use Rattle.locate_trapezoid.proofs.Puts.{lower_has, upper_has, part_at_first, so_at_first, part_next, fewer_next, so_next}
use Rattle.locate_trapezoid.proofs.insertion.put_edge.Goals as goal

pub parts-init : goal.parts-init
parts-init c =
    let v = c.args.records.now.graph in
    let low = c.lower.ensures.value ∙ ap (λ (e : PlaneEdge). e.low) c.span_of-span.ensures.edge in
    record {
      made = c.requires.made;
      part = part_at_first v c.requires.sound c.args.dart c.requires.dart c.args.graph.now c.requires.made c.lower.result low;
      so_far = so_at_first v c.requires.sound c.args.dart c.requires.dart c.args.graph.now c.requires.made c.lower.result low;
    }

pub descend-descent-requires-clause-tree : goal.descend-descent-requires-clause-tree
descend-descent-requires-clause-tree c = subst (λ l. IsTree (arena l)) (sym c.nodes.ensures) c.parts.invariant.made.tree

pub descend-descent-requires-clause-named : goal.descend-descent-requires-clause-named
descend-descent-requires-clause-named c = subst (λ l. AreNamed c.args.records.now.graph (arena l)) (sym c.nodes.ensures) c.parts.invariant.made.named

pub split-requires-clause-leaf : goal.split-requires-clause-leaf
split-requires-clause-leaf c = subst (λ l. IsLeaf (arena l) c.descend-descent.result.leaf) c.nodes.ensures c.descend-descent.ensures.leaf

pub parts-preserved : goal.parts-preserved
parts-preserved c =
    let v = c.args.records.now.graph in
    let high = c.upper-end.ensures ∙ ap (λ (e : PlaneEdge). e.high) c.span_of-span.ensures.edge in
    let lower = lower_has v c.requires.sound c.args.dart c.requires.dart c.source-lower.result c.source-lower.ensures in
    let upper = upper_has v c.requires.sound c.args.dart c.requires.dart c.target-upper.result c.target-upper.ensures in
    record {
      made = record {
        tree = c.in_ok-split.ensures.tree;
        depth = c.in_ok-split.ensures.depth;
        named = c.in_ok-split.ensures.named v c.parts.invariant.made.named lower upper c.requires.dart;
      };
      part = part_next v c.requires.sound c.args.dart c.requires.dart c.parts.graph c.parts.invariant.made c.in-Some.from c.parts.next c.in-Some.is c.parts.invariant.part c.nodes.result.now c.nodes.ensures (edge_of c.span_of-span.result) c.span_of-span.ensures.edge c.descend-descent.result c.descend-descent.ensures.descent c.upper-end.result high c.rest-next.result c.rest-next.ensures;
      so_far = so_next v c.requires.sound c.args.dart c.requires.dart c.parts.graph c.parts.invariant.made c.in-Some.from c.parts.next c.in-Some.is c.parts.invariant.part c.nodes.result.now c.nodes.ensures (edge_of c.span_of-span.result) c.span_of-span.ensures.edge c.descend-descent.result c.descend-descent.ensures.descent c.upper-end.result high c.rest-next.result c.rest-next.ensures
          c.args.graph.now c.split.new.graph c.source-lower.result c.target-upper.result c.source-lower.ensures c.target-upper.ensures c.descend-descent.ensures.leaf c.in_ok-split.ensures.split c.parts.invariant.so_far;
    }

pub parts-smaller : goal.parts-smaller
parts-smaller c =
    let v = c.args.records.now.graph in
    let high = c.upper-end.ensures ∙ ap (λ (e : PlaneEdge). e.high) c.span_of-span.ensures.edge in
    fewer_next v c.requires.sound c.args.dart c.requires.dart c.parts.graph c.parts.invariant.made c.in-Some.from c.parts.next c.in-Some.is c.parts.invariant.part c.nodes.result.now c.nodes.ensures (edge_of c.span_of-span.result) c.span_of-span.ensures.edge c.descend-descent.result c.descend-descent.ensures.descent c.upper-end.result high c.rest-next.result c.rest-next.ensures

pub returns-clause-edge : goal.returns-clause-edge
returns-clause-edge c = λ us known m.
    let v = c.args.records.now.graph in
    all_in v (arena c.parts.graph.nodes.items) us (Edge c.args.dart) (subst (IsSoFar v (Edge c.args.dart) c.args.graph.now c.parts.graph) c.in_default.is c.parts.invariant.so_far us known m)
