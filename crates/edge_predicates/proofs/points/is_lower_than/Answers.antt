use Rattle.edge_predicates.proofs.Sides.{lower_than_by}
use Rattle.std.proofs.Common.{◌∙◌}
use Rattle.edge_predicates.proofs.points.is_lower_than.Goals as goal

pub returns : goal.returns
returns c = c.is_lt.ensures ∙ lower_than_by c.args.point.now c.args.other.now c.compare_y.result c.compare_y.ensures
