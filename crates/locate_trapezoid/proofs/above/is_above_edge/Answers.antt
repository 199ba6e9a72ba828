use Rattle.std.proofs.Common.{ap, sym, subst, ◌∙◌}
use Rattle.slab_laws.specs.SpansDrawn.{edge_of}
use Rattle.slab_laws.specs.Sound.{edge_in}
use Rattle.slab_laws.specs.View.{HasVertex, point_in}
use Rattle.edge_predicates.proofs.AboveSteps.{is_later, is_earlier, is_fan}
use Rattle.locate_trapezoid.proofs.SplitLeaf.{low_is}
use Rattle.locate_trapezoid.proofs.above.is_above_edge.Goals as goal

pub point-start-requires : goal.point-start-requires
point-start-requires c = subst (HasVertex c.args.records.now.graph) (sym c.source.ensures) (c.requires.sound.linked.source c.args.dart c.requires.dart.0)

pub returns-then-precedes : goal.returns-then-precedes
returns-then-precedes c =
    let v = c.args.records.now.graph in
    let low = c.point-start.ensures ∙ ap (point_in v) c.source.ensures ∙ low_is v c.args.dart c.requires.dart in
    is_later (edge_of c.args.span.now) (edge_in v c.args.dart) _ _ _ _ c.lower-lower.ensures.value low c.precedes.ensures c.if-precedes.true c.is_edge_under.ensures

pub returns-then-precedes-2 : goal.returns-then-precedes-2
returns-then-precedes-2 c =
    let v = c.args.records.now.graph in
    let low = c.point-start.ensures ∙ ap (point_in v) c.source.ensures ∙ low_is v c.args.dart c.requires.dart in
    is_earlier (edge_of c.args.span.now) (edge_in v c.args.dart) _ _ _ _ _ c.lower-lower.ensures.value low c.precedes.ensures c.if-precedes.false c.precedes-else-precedes.ensures c.if-precedes-2.true c.is_over.ensures

pub returns-else-precedes-2 : goal.returns-else-precedes-2
returns-else-precedes-2 c =
    let v = c.args.records.now.graph in
    let low = c.point-start.ensures ∙ ap (point_in v) c.source.ensures ∙ low_is v c.args.dart c.requires.dart in
    is_fan (edge_of c.args.span.now) (edge_in v c.args.dart) _ _ _ _ _ _ c.lower-lower.ensures.value low c.upper.ensures c.precedes.ensures c.if-precedes.false c.precedes-else-precedes.ensures c.if-precedes-2.false c.is_edge_under-else-precedes-2.ensures
