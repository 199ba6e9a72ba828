use Rattle.std.proofs.Common.{◌≡◌, map, take}
use Rattle.subdivision_rows.specs.Listed.{subdivision_in}
use Rattle.plain_slabs.specs.LayerEdges.{cell_among, rank_in}
use Rattle.plain_slabs.proofs.labels.ranks_at.Given as goal

abbrev pub invariant-loop-cell : goal.invariant-loop-cell
invariant-loop-cell l = l.ranks.items ≡ map (λ c. rank_in (subdivision_in l.own) (cell_among l.edges l.slabs c)) (take l.cell-index l.cells)
