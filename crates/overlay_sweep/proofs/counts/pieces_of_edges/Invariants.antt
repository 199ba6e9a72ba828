use Rattle.std.proofs.Common.{◌≡◌, ◌++◌, drop}
use Rattle.overlay_sweep.specs.EdgePieces.{own_counts}
use Rattle.overlay_sweep.proofs.counts.pieces_of_edges.Given as goal

abbrev pub invariant-loop-edge : goal.invariant-loop-edge
invariant-loop-edge l = l.counts.items ++ own_counts l.first l.count (drop l.edge-index l.whole.edges.items) l.rest ≡ own_counts l.first l.count l.whole.edges.items l.whole.stretches.items
