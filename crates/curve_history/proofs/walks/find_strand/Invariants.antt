use Rattle.std.proofs.Common.{◌≡◌, length}
use Rattle.linked_chains.specs.Chains.{chain}
use Rattle.curve_history.proofs.Walking.{IsSought, left}
use Rattle.curve_history.proofs.walks.find_strand.Given as goal

abbrev pub invariant-walk : goal.invariant-walk
invariant-walk l = IsSought l.edges l.edge (λ i. i ≡ l.strand) l.at

abbrev pub decreases-walk : goal.decreases-walk
decreases-walk l = length (left (chain l.edges l.edge) l.at)
