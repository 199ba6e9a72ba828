use Rattle.curve_history.proofs.Facing.{ascend_seen, twins_seen, here_seen, there_seen}
use Rattle.curve_history.proofs.drawn.DrawnCurved.curves.Goals as goal

pub returns-then-has_curves-clause-curves : goal.returns-then-has_curves-clause-curves
returns-then-has_curves-clause-curves g c = here_seen g.R.Darts.graph _ _ _ c.self.view_is c.self.invariant c.args.d c.requires _ _ c.has_curves.ensures c.if-has_curves.true c.curves_of.ensures

pub returns-then-has_curves-clause-ascend : goal.returns-then-has_curves-clause-ascend
returns-then-has_curves-clause-ascend g c = ascend_seen g.R.Darts.graph _ _ _ c.self.view_is c.self.invariant c.args.d c.requires

pub returns-then-has_curves-clause-twins : goal.returns-then-has_curves-clause-twins
returns-then-has_curves-clause-twins g c = twins_seen g.R.Darts.graph _ _ _ c.self.view_is c.self.invariant c.args.d c.requires _ c.twin-twin.ensures.twin c.twin-twin.ensures.back

pub returns-else-has_curves-clause-curves : goal.returns-else-has_curves-clause-curves
returns-else-has_curves-clause-curves g c = there_seen g.R.Darts.graph _ _ _ c.self.view_is c.self.invariant c.args.d c.requires _ _ _ c.twin-twin.ensures.twin c.has_curves.ensures c.if-has_curves.false c.curves_of-else-has_curves.ensures

pub returns-else-has_curves-clause-ascend : goal.returns-else-has_curves-clause-ascend
returns-else-has_curves-clause-ascend g c = ascend_seen g.R.Darts.graph _ _ _ c.self.view_is c.self.invariant c.args.d c.requires

pub returns-else-has_curves-clause-twins : goal.returns-else-has_curves-clause-twins
returns-else-has_curves-clause-twins g c = twins_seen g.R.Darts.graph _ _ _ c.self.view_is c.self.invariant c.args.d c.requires _ c.twin-twin.ensures.twin c.twin-twin.ensures.back
