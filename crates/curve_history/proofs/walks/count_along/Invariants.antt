use Rattle.std.proofs.Common.{length}
use Rattle.linked_chains.specs.Chains.{chain}
use Rattle.curve_history.proofs.Walking.{IsCounted, left}
use Rattle.curve_history.proofs.walks.count_along.Given as goal

abbrev pub invariant-walk : goal.invariant-walk
invariant-walk l = IsCounted l.edges l.edge l.count l.at

abbrev pub decreases-walk : goal.decreases-walk
decreases-walk l = length (left (chain l.edges l.edge) l.at)
