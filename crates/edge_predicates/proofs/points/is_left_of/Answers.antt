use Rattle.edge_predicates.proofs.Sides.{left_of_by}
use Rattle.std.proofs.Common.{◌∙◌}
use Rattle.edge_predicates.proofs.points.is_left_of.Goals as goal

pub returns : goal.returns
returns c = c.is_lt.ensures ∙ left_of_by c.args.point.now c.args.other.now c.compare_x.result c.compare_x.ensures
