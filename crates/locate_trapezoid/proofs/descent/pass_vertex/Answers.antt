use Rattle.slab_laws.specs.SpansDrawn.{edge_of}
use Rattle.locate_trapezoid.proofs.Steps.{goes_after, goes_beyond, goes_bounded}
use Rattle.locate_trapezoid.proofs.descent.pass_vertex.Goals as goal

pub returns-then-not-precedes-clause-descent : goal.returns-then-not-precedes-clause-descent
returns-then-not-precedes-clause-descent c = λ v w is a t ch d.
    goes_after v a (edge_of c.args.span.now) c.args.from.now c.args.last.leaf.slot c.args.last.is_lowered c.args.last.bound c.args.number w d ch t c.args.point is
    c.precedes.result c.is_lowered.result c.precedes.ensures c.if-not-precedes.true c.is_lowered.ensures

pub returns-then-is_beyond-clause-descent : goal.returns-then-is_beyond-clause-descent
returns-then-is_beyond-clause-descent c = λ v w is a t ch d.
    goes_beyond v a (edge_of c.args.span.now) c.args.from.now c.args.last.leaf.slot c.args.last.is_lowered c.args.last.bound c.args.number w d ch t c.args.point is
    c.precedes.result c.is_beyond.result c.precedes.ensures c.if-not-precedes.false c.is_beyond.ensures c.if-is_beyond.true

pub returns-clause-descent : goal.returns-clause-descent
returns-clause-descent c = λ v w is a t ch d.
    goes_bounded v a (edge_of c.args.span.now) c.args.from.now c.args.last.leaf.slot c.args.last.is_lowered c.args.last.bound c.args.number w d ch t c.args.point is
    c.precedes.result c.is_beyond.result c.precedes.ensures c.if-not-precedes.false c.is_beyond.ensures c.if-is_beyond.false
