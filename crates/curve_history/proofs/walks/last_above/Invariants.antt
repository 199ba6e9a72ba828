use Rattle.std.proofs.Common.{length}
use Rattle.linked_chains.specs.Chains.{chain}
use Rattle.curve_history.proofs.Placing.{IsClimbed}
use Rattle.curve_history.proofs.Walking.{left}
use Rattle.curve_history.proofs.walks.last_above.Given as goal

abbrev pub invariant-walk : goal.invariant-walk
invariant-walk l = IsClimbed l.edges l.edge l.strand l.last l.at

abbrev pub decreases-walk : goal.decreases-walk
decreases-walk l = length (left (chain l.edges l.edge) l.at)
