use Rattle.std.proofs.Common.{get_or}
use Rattle.plane_graphs.proofs.Sorting.{member_at}
use Rattle.sweep_graphs.proofs.trace.add_stretches.Goals as goal

pub last_on-requires : goal.last_on-requires
last_on-requires c = c.requires (get_or c.args.pieces.now c.loop-piece.piece-index 0) (member_at c.args.pieces.now c.loop-piece.piece-index 0 c.loop-piece-test.true)
