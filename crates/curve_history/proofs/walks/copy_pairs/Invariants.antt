use Rattle.std.proofs.Common.{◌≡◌, ◌+◌, ◌≤◌, None, length}
use Rattle.curve_history.specs.Changed.{AreSameKeys}
use Rattle.linked_chains.specs.Chains.{HasKey, chain}
use Rattle.curve_history.specs.HistoryInMemory.{ArePairs, pair_room}
use Rattle.curve_history.proofs.Copying.{IsCopying, IsInStep}
use Rattle.curve_history.proofs.Walking.{left}
use Rattle.curve_history.proofs.walks.copy_pairs.Given as goal

abbrev pub invariant-walk : goal.invariant-walk
invariant-walk l = record {
  pairs : ArePairs l.edges l.curves;
  copied : IsCopying l.fn.edges l.edges l.edge l.part l.at;
  in_step : IsInStep l.fn.edges l.edges l.edge l.part l.last l.at;
  bare : l.last ≡ None → ¬ HasKey l.edges l.part;
  named : AreSameKeys l.fn.curves l.curves;
  room : pair_room l.fn.edges l.fn.curves + length (left (chain l.fn.edges l.edge) l.at) ≤ pair_room l.edges l.curves + length (chain l.fn.edges l.edge);
}

abbrev pub decreases-walk : goal.decreases-walk
decreases-walk l = length (left (chain l.fn.edges l.edge) l.at)
