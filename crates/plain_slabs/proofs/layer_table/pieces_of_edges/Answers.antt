use Rattle.std.proofs.Common.{ℕ, ◌∷◌, [], ◌++◌, ap, ◌∙◌}
use Rattle.plane_graphs.proofs.Loops.{read_map, below_map, past_map, mapped, all_mapped}
use Rattle.set_laws.specs.PolygonSets.{pieces_along}
use Rattle.slab_laws.specs.Pieces.{present_of}
use Rattle.slab_laws.specs.SpansDrawn.{edge_of}
use Rattle.plain_slabs.proofs.PieceCounts.{along_is}
use Rattle.plain_slabs.proofs.layer_table.pieces_of_edges.Goals as goal

pub returns : goal.returns
returns c = all_mapped (pieces_along (present_of c.args.layer.now)) _ c.loop-edge.edge-index _ (past_map edge_of c.args.edges.now c.loop-edge.edge-index c.loop-edge-test.false) c.loop-edge.invariant

pub loop-edge-preserved : goal.loop-edge-preserved
loop-edge-preserved c =
    let i = c.loop-edge.edge-index in
    let es = c.args.edges.now in
    let e = c.edge-item.result in
    mapped (pieces_along (present_of c.args.layer.now)) _ i (edge_of e) _ _ (below_map edge_of es i c.loop-edge-test.true) (read_map edge_of es i e c.loop-edge-test.true c.edge-item.is) c.loop-edge.invariant
    (c.in_ok-push.ensures.items ∙ ap (λ (n : ℕ). c.loop-edge.counts.items ++ n ∷ []) (along_is c.args.layer.now (edge_of e) c.count_along.result c.as_slice.result.now c.as_slice.ensures c.count_along.ensures))
