use Rattle.std.proofs.Common.{◌≡◌, ◌++◌, drop}
use Rattle.subdivision_rows.specs.LayerTables.{numbers_in}
use Rattle.overlay_sweep.specs.EdgeCurves.{own_rows}
use Rattle.overlay_sweep.proofs.curves.curves_of_edges.Given as goal

abbrev pub invariant-loop-edge : goal.invariant-loop-edge
invariant-loop-edge l = numbers_in l.rows.items ++ own_rows l.layer.pieces l.first (drop l.edge-index l.whole.edges.items) l.rest ≡ own_rows l.layer.pieces l.first l.whole.edges.items l.whole.stretches.items
