use Rattle.std.proofs.Common.{sym, ap, ap₂, ◌∙◌, ◌++◌, ◌∷◌, [], ℕ, List}
use Rattle.std.proofs.lemmas.List.{map_more}
use Rattle.plane_graphs.proofs.Loops.{all_mapped}
use Rattle.subdivision_rows.specs.Listed.{subdivision_in}
use Rattle.plain_slabs.specs.LayerEdges.{cell_among, rank_in}
use Rattle.plain_slabs.proofs.labels.ranks_at.Goals as goal

pub returns : goal.returns
returns c = all_mapped (λ f. rank_in (subdivision_in c.args.own.now) (cell_among c.args.edges.now c.args.slabs.now f)) c.args.cells.now c.loop-cell.cell-index _ c.loop-cell-test.false c.loop-cell.invariant

pub loop-cell-preserved : goal.loop-cell-preserved
loop-cell-preserved c =
    let s = subdivision_in c.args.own.now in
    c.in_ok-push.ensures.items
    ∙ ap₂ (λ (ns : List ℕ) (n : ℕ). ns ++ n ∷ []) c.loop-cell.invariant (c.rank_at.ensures ∙ ap (rank_in s) c.in_ok-within.ensures)
    ∙ sym (map_more (λ f. rank_in s (cell_among c.args.edges.now c.args.slabs.now f)) c.args.cells.now c.loop-cell.cell-index _ c.loop-cell-test.true)
