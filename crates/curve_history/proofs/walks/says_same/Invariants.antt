use Rattle.std.proofs.Common.{length}
use Rattle.linked_chains.specs.Chains.{chain}
use Rattle.curve_history.proofs.Abreast.{IsAbreast}
use Rattle.curve_history.proofs.Walking.{left}
use Rattle.curve_history.proofs.walks.says_same.Given as goal

abbrev pub invariant-walk : goal.invariant-walk
invariant-walk l = IsAbreast l.edges l.edge l.other l.at l.beside

abbrev pub decreases-walk : goal.decreases-walk
decreases-walk l = length (left (chain l.edges l.edge) l.at)
