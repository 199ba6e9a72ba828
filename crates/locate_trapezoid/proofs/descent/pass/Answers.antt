use Rattle.std.proofs.Common.{◌∙◌, sym, subst, Bool}
use Rattle.slab_laws.specs.SpansDrawn.{edge_of}
use Rattle.locate_trapezoid.specs.declared.node.Slot.TheVariants.{Child}
use Rattle.locate_trapezoid.specs.Descents.{Descends, sided}
use Rattle.locate_trapezoid.proofs.descent.pass.Goals as goal

pub returns-in-Edge-clause-descent : goal.returns-in-Edge-clause-descent
returns-in-Edge-clause-descent c = λ a t ch d.
    subst (λ (b : Bool). Descends c.args.records.now.graph a (edge_of c.args.span.now) c.args.from.now (Child c.args.number b) c.args.last.is_lowered c.args.last.bound)
    (sym c.is_above_edge.ensures)
    (sided c.args.last.leaf.slot c.args.last.is_lowered c.args.last.bound c.args.number c.in-Edge.dart d ch (t ∙ c.in-Edge.is))
