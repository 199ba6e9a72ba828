use Rattle.std.proofs.Common.{ap, ◌∙◌, map, length}
use Rattle.slab_laws.specs.Pieces.{piece_of}
use Rattle.plane_graphs.proofs.Loops.{read_map, below_map, past_map}
use Rattle.present_graphs.proofs.Numbering.{begun, numbered_more, all_numbered}
use Rattle.present_graphs.proofs.united.add_pieces.Goals as goal

pub loop-piece-init : goal.loop-piece-init
loop-piece-init c = begun c.args.all.now (map piece_of c.args.pieces.now)

pub returns : goal.returns
returns c = all_numbered c.args.all.now c.loop-piece.all (map piece_of c.args.pieces.now) c.loop-piece.piece-index (past_map piece_of c.args.pieces.now c.loop-piece.piece-index c.loop-piece-test.false) c.loop-piece.invariant

pub loop-piece-preserved : goal.loop-piece-preserved
loop-piece-preserved c =
    let i = c.loop-piece.piece-index in
    let ks = c.args.pieces.now in
    let k = c.piece-item.result in
    numbered_more c.args.all.now c.loop-piece.all _ (map piece_of ks) i k _ (below_map piece_of ks i c.loop-piece-test.true) (read_map piece_of ks i k c.loop-piece-test.true c.piece-item.is) c.loop-piece.invariant (c.in_ok-curve.ensures ∙ ap length c.as_slice.ensures) c.in_ok-push.ensures.added
