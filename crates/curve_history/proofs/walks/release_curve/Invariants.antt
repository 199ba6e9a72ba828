use Rattle.std.proofs.Common.{◌≡◌, ◌≤◌, length}
use Rattle.curve_history.specs.Changed.{AreSameKeys, AreSidesLess}
use Rattle.linked_chains.specs.Chains.{chain}
use Rattle.curve_history.specs.HistoryInMemory.{AreOrdered, ArePairs, pair_room}
use Rattle.curve_history.proofs.walks.release_curve.Given as goal

abbrev pub invariant-each : goal.invariant-each
invariant-each l = record {
  pairs : ArePairs l.edges l.curves;
  ordered : AreOrdered l.edges;
  less : AreSidesLess l.fn.edges l.edges l.edge l.curve;
  named : AreSameKeys l.fn.curves l.curves;
  capacity : l.edges.capacity_of_nodes ≡ l.fn.edges.capacity_of_nodes;
  room : pair_room l.fn.edges l.fn.curves ≤ pair_room l.edges l.curves;
}

abbrev pub decreases-each : goal.decreases-each
decreases-each l = length (chain l.edges l.edge)
