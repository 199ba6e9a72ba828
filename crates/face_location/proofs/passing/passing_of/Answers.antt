use Rattle.std.proofs.Common.{sym, ◌∙◌}
use Rattle.face_location.proofs.Passings.{minus_past, zero_met, plus_below}
use Rattle.face_location.proofs.passing.passing_of.Goals as goal

pub returns-in-Minus : goal.returns-in-Minus
returns-in-Minus g c = minus_past (g.R.Darts.graph c.args.records.now) c.args.dart c.args.point.now c.in-Some.forward c.in-Some.ensures.0 c.in-Some.ensures.1 (sym c.in-Minus.is ∙ c.side_of_edge.ensures)

pub returns-in-Zero : goal.returns-in-Zero
returns-in-Zero g c = zero_met (g.R.Darts.graph c.args.records.now) c.args.dart c.args.point.now c.in-Some.forward c.in-Some.ensures.0 c.in-Some.ensures.1 (sym c.in-Zero.is ∙ c.side_of_edge.ensures)

pub returns-in-Plus : goal.returns-in-Plus
returns-in-Plus g c = plus_below (g.R.Darts.graph c.args.records.now) c.args.dart c.args.point.now c.in-Some.forward c.in-Some.ensures.0 c.in-Some.ensures.1 (sym c.in-Plus.is ∙ c.side_of_edge.ensures)
