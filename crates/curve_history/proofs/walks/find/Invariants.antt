use Rattle.std.proofs.Common.{◌≡◌, length}
use Rattle.linked_chains.specs.Chains.{chain}
use Rattle.edit_steps.specs.EditLaws.{curve_of}
use Rattle.curve_history.proofs.Walking.{IsSought, left}
use Rattle.curve_history.proofs.walks.find.Given as goal

abbrev pub invariant-walk : goal.invariant-walk
invariant-walk l = record { one : IsSought l.edges l.edge (λ i. curve_of i ≡ l.curve) l.at; other : IsSought l.curves l.curve (λ i. i ≡ l.edge) l.beside }

abbrev pub decreases-walk : goal.decreases-walk
decreases-walk l = length (left (chain l.edges l.edge) l.at)
