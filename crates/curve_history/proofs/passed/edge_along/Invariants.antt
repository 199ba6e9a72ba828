use Rattle.std.proofs.Common.{◌≡◌, true, length}
use Rattle.linked_chains.specs.Chains.{chain}
use Rattle.slab_laws.specs.View.{dart_id}
use Rattle.curve_history.specs.DrawnRecords.{passes}
use Rattle.curve_history.specs.HistoryInMemory.{Says}
use Rattle.curve_history.proofs.Walking.{IsSought, left}
use Rattle.curve_history.proofs.passed.edge_along.Given as goal

abbrev pub invariant-walk : goal.invariant-walk
invariant-walk g l = IsSought l.curves l.curve (λ i. Says l.edges i l.strand × (passes (g.R.Darts.graph l.records) (dart_id i) l.p ≡ true)) l.at

abbrev pub decreases-walk : goal.decreases-walk
decreases-walk g l = length (left (chain l.curves l.curve) l.at)
