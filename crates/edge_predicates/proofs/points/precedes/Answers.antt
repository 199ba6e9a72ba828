use Rattle.std.proofs.Common.{sym, ◌∙◌}
use Rattle.edge_predicates.proofs.Sides.{precedes_less, precedes_equal, precedes_greater}
use Rattle.edge_predicates.proofs.points.precedes.Goals as goal

pub returns-in-Less : goal.returns-in-Less
returns-in-Less c = precedes_less c.args.point.now c.args.other.now (sym c.compare_x.ensures ∙ c.in-Less.is)

pub returns-in-Equal : goal.returns-in-Equal
returns-in-Equal c = c.is_lower_than.ensures ∙ precedes_equal c.args.point.now c.args.other.now (sym c.compare_x.ensures ∙ c.in-Equal.is)

pub returns-in-Greater : goal.returns-in-Greater
returns-in-Greater c = precedes_greater c.args.point.now c.args.other.now (sym c.compare_x.ensures ∙ c.in-Greater.is)
