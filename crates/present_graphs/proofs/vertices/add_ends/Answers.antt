use Rattle.std.proofs.Common.{◌∷◌, [], ◌∙◌, ap, append_assoc, ◌++◌}
use Rattle.plane_graphs.specs.Graph.{ends}
use Rattle.slab_laws.specs.Pieces.{piece_of}
use Rattle.plane_graphs.proofs.Loops.{read_map, below_map, past_map, gathered, all_gathered}
use Rattle.present_graphs.proofs.vertices.add_ends.Goals as goal

pub returns : goal.returns
returns c = all_gathered ends _ c.loop-piece.piece-index c.args.points.now.items c.loop-piece.points.items (past_map piece_of c.args.pieces.now c.loop-piece.piece-index c.loop-piece-test.false) c.loop-piece.invariant

pub loop-piece-preserved : goal.loop-piece-preserved
unfolding ends
loop-piece-preserved c =
    let i = c.loop-piece.piece-index in
    let ks = c.args.pieces.now in
    let k = c.piece-item.result in
    gathered ends _ i (piece_of k) c.args.points.now.items c.loop-piece.points.items _ (below_map piece_of ks i c.loop-piece-test.true) (read_map piece_of ks i k c.loop-piece-test.true c.piece-item.is) c.loop-piece.invariant (c.in_ok-push-2.ensures.items ∙ ap (λ ps. ps ++ k.to ∷ []) c.in_ok-push.ensures.items ∙ append_assoc c.loop-piece.points.items (k.from ∷ []) (k.to ∷ []))
