use Rattle.std.proofs.Common.{◌∙◌}
use Rattle.dart_orbits.proofs.Neighbours.{next_is, first_is_next}
use Rattle.dart_orbits.proofs.nexts.after_at.Goals as goal

pub returns-in-Some : goal.returns-in-Some
returns-in-Some c = c.in-Some.ensures.1 ∙ next_is c.args.points.now c.args.edges.now c.args.darts.now c.requires.plane c.requires.darts c.args.around.now c.requires.around c.args.index c.in-Some.ensures.0 c.in-Some.ensures.2

pub returns-in-None : goal.returns-in-None
returns-in-None c =
    first_is_next c.args.points.now c.args.edges.now c.args.darts.now c.requires.plane c.requires.darts c.args.around.now c.requires.around c.args.index c.args.first c.requires.index c.in-None.ensures c.requires.first
