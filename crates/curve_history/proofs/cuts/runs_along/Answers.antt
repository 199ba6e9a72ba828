use Rattle.slab_laws.specs.Pieces.{piece_of}
use Rattle.curve_history.proofs.Cutting.{both_along, one_apart}
use Rattle.curve_history.proofs.cuts.runs_along.Goals as goal

pub returns-then-is_on : goal.returns-then-is_on
returns-then-is_on c = both_along (piece_of c.args.piece.now) _ _ _ c.is_on.ensures c.if-is_on.true _ c.is_on-then-is_on.ensures

pub returns-else-is_on : goal.returns-else-is_on
returns-else-is_on c = one_apart (piece_of c.args.piece.now) _ _ _ c.is_on.ensures c.if-is_on.false
