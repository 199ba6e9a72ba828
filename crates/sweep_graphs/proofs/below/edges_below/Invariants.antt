use Rattle.std.proofs.Common.{◌-◌}
use Rattle.sweep_graphs.proofs.OpenStretches.{AreUnderFrom}
use Rattle.sweep_graphs.proofs.below.edges_below.Given as goal

abbrev pub invariant-back : goal.invariant-back
invariant-back l = AreUnderFrom l.trace l.stretches l.vertex l.edges.items

abbrev pub decreases-back : goal.decreases-back
decreases-back l = l.vertex
