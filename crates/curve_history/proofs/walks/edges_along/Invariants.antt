use Rattle.std.proofs.Common.{length, map}
use Rattle.linked_chains.specs.Chains.{chain}
use Rattle.curve_history.proofs.Walking.{IsCollected, left}
use Rattle.curve_history.proofs.walks.edges_along.Given as goal

abbrev pub invariant-walk : goal.invariant-walk
invariant-walk l = IsCollected l.curves l.curve (map (λ d. d.0) l.edges.items) l.at

abbrev pub decreases-walk : goal.decreases-walk
decreases-walk l = length (left (chain l.curves l.curve) l.at)
