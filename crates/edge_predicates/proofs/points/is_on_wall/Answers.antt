use Rattle.std.proofs.Common.{◌∙◌}
use Rattle.edge_predicates.proofs.Sides.{on_wall_by}
use Rattle.edge_predicates.proofs.points.is_on_wall.Goals as goal

pub returns : goal.returns
returns c = c.is_eq.ensures ∙ on_wall_by c.args.point.now c.args.other.now c.compare_x.result c.compare_x.ensures
