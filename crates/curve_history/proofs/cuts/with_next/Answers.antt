use Rattle.std.proofs.Common.{arith}
use Rattle.slab_laws.specs.Pieces.{piece_of}
use Rattle.curve_history.proofs.Cutting.{two_at_most, held_next, whole_next, is_whole}
use Rattle.curve_history.proofs.cuts.with_next.Goals as goal

pub with_held-requires-clause-rests : goal.with_held-requires-clause-rests
with_held-requires-clause-rests c = omega (arith, c.count_rests.ensures, two_at_most c.args.p.now c.args.q.now (piece_of c.args.piece.now))

pub returns-then-holds_both : goal.returns-then-holds_both
returns-then-holds_both c = held_next _ _ _ _ _ _ _ c.count_rests.ensures c.with_held.ensures.left c.with_held.ensures.first c.with_held.ensures.end c.with_held.ensures.stay

pub returns-else-holds_both : goal.returns-else-holds_both
returns-else-holds_both c = whole_next _ _ _ _ _ _ (is_whole (piece_of c.args.piece.now) _ _ _ c.holds_both.ensures c.if-holds_both.false) c.with_whole.ensures.left c.with_whole.ensures.none c.with_whole.ensures.some c.with_whole.ensures.stay
