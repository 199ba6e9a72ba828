use Rattle.std.proofs.Common.{length, map}
use Rattle.linked_chains.specs.Chains.{chain}
use Rattle.curve_history.proofs.Walking.{AreCurvesCollected, left}
use Rattle.curve_history.proofs.walks.curves_along.Given as goal

abbrev pub invariant-walk : goal.invariant-walk
invariant-walk l = AreCurvesCollected l.edges l.edge (map (λ c. c.0) l.curves.items) l.at

abbrev pub decreases-walk : goal.decreases-walk
decreases-walk l = length (left (chain l.edges l.edge) l.at)
