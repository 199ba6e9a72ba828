use Rattle.slab_laws.specs.Pieces.{piece_of}
use Rattle.curve_history.proofs.Cutting.{both_on, one_off}
use Rattle.curve_history.proofs.cuts.holds_both.Goals as goal

pub returns-then-spans : goal.returns-then-spans
returns-then-spans c = both_on (piece_of c.args.piece.now) _ _ _ c.spans.ensures c.if-spans.true _ c.lies_along.ensures

pub returns-else-spans : goal.returns-else-spans
returns-else-spans c = one_off (piece_of c.args.piece.now) _ _ _ c.spans.ensures c.if-spans.false
