use Rattle.slab_laws.specs.SpansDrawn.{edge_of}
use Rattle.edge_predicates.proofs.AboveSteps.{is_later, is_earlier, is_fan}
use Rattle.edge_predicates.proofs.above.is_above.Goals as goal

pub returns-then-precedes : goal.returns-then-precedes
returns-then-precedes c = is_later (edge_of c.args.edge.now) (edge_of c.args.other.now) _ _ _ _ c.lower-lower.ensures.value c.lower-start.ensures.value c.precedes.ensures c.if-precedes.true c.is_under.ensures

pub returns-then-precedes-2 : goal.returns-then-precedes-2
returns-then-precedes-2 c = is_earlier (edge_of c.args.edge.now) (edge_of c.args.other.now) _ _ _ _ _ c.lower-lower.ensures.value c.lower-start.ensures.value c.precedes.ensures c.if-precedes.false c.precedes-else-precedes.ensures c.if-precedes-2.true c.is_over.ensures

pub returns-else-precedes-2 : goal.returns-else-precedes-2
returns-else-precedes-2 c = is_fan (edge_of c.args.edge.now) (edge_of c.args.other.now) _ _ _ _ _ _ c.lower-lower.ensures.value c.lower-start.ensures.value c.upper.ensures c.precedes.ensures c.if-precedes.false c.precedes-else-precedes.ensures c.if-precedes-2.false c.is_under-else-precedes-2.ensures
