use Rattle.std.proofs.Common.{◌≡◌, ◌++◌, drop}
use Rattle.overlay_sweep.specs.EdgeRows.{ends_rows}
use Rattle.overlay_sweep.proofs.graphs.rows_along.Given as goal

abbrev pub invariant-loop-edge : goal.invariant-loop-edge
invariant-loop-edge l = l.rows.items ++ ends_rows l.edge (drop l.edge l.edges) ≡ ends_rows 0 l.edges
