use Rattle.rotation_order.proofs.Circuits.{left}
use Rattle.lower_envelope.proofs.CurvesRound.{IsRoundSoFar}
use Rattle.lower_envelope.proofs.envelope_text.curves_round.Given as goal

-- the curves of the darts that were passed are there
abbrev pub invariant-ring : goal.invariant-ring
invariant-ring g l = IsRoundSoFar (g.R.Darts.graph l.records) (g.R.Curved.curve_list l.records) l.first l.dart l.curves.items

abbrev pub decreases-ring : goal.decreases-ring
decreases-ring g l = left (g.R.Darts.graph l.records) l.first l.dart
