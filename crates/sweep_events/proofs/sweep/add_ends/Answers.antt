use Rattle.std.proofs.Common.{◌∙◌, ap}
use Rattle.std.specs.BTreeSet.{insert_key}
use Rattle.exact_plane.specs.PointOrder.{point_cmp}
use Rattle.sweep_events.proofs.FirstQueue.{ends_more}
use Rattle.sweep_events.proofs.sweep.add_ends.Goals as goal

pub loop-piece-preserved : goal.loop-piece-preserved
loop-piece-preserved c =
    let now = c.loop-piece.queue.keys in
    ends_more c.args.pieces.now c.loop-piece.piece-index c.piece-item.result c.args.queue.now.keys now c.insert.new.self.keys c.loop-piece-test.true c.piece-item.is c.loop-piece.invariant
    (c.in_ok-insert.ensures.keys ∙ ap (insert_key point_cmp now) c.upper.ensures)
