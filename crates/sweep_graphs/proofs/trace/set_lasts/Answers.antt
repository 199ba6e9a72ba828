use Rattle.std.proofs.Common.{get_or, ◌<◌, ◌∙◌, ap, length, arith}
use Rattle.std.proofs.lemmas.List.{length-set}
use Rattle.plane_graphs.proofs.Sorting.{member_at}
use Rattle.sweep_graphs.proofs.TraceLists.{set_more, kept_more}
use Rattle.sweep_graphs.proofs.trace.set_lasts.Goals as goal

pub set_last-requires : goal.set_last-requires
set_last-requires c =
    let h = c.requires (get_or c.args.pieces.now c.loop-piece.piece-index 0) (member_at c.args.pieces.now c.loop-piece.piece-index 0 c.loop-piece-test.true) in
    let e = c.loop-piece.invariant.counted in
    omega arith

pub loop-piece-preserved : goal.loop-piece-preserved
loop-piece-preserved c =
    let xs = c.args.pieces.now in
    let k = c.loop-piece.piece-index in
    let now = c.loop-piece.lasts.items in
    let b : get_or xs k 0 < length now = (let h = c.requires (get_or xs k 0) (member_at xs k 0 c.loop-piece-test.true) in let e = c.loop-piece.invariant.counted in omega arith) in
    record {
      counted = ap length c.set_last.ensures ∙ length-set now (get_or xs k 0) c.args.vertex ∙ c.loop-piece.invariant.counted;
      set = set_more xs k c.args.vertex now c.set_last.new.lasts.items c.loop-piece-test.true b c.loop-piece.invariant.set c.set_last.ensures;
      kept = kept_more xs k c.args.vertex c.args.lasts.now.items now c.set_last.new.lasts.items c.loop-piece-test.true c.loop-piece.invariant.kept c.set_last.ensures;
    }
