use Rattle.slab_laws.specs.Pieces.{piece_of}
use Rattle.curve_history.proofs.Cutting.{leaves_past, leaves_other}
use Rattle.curve_history.proofs.cuts.leaves_rest.Goals as goal

pub returns-then-passes_one : goal.returns-then-passes_one
returns-then-passes_one c = leaves_past (piece_of c.args.piece.now) _ _ _ c.passes_one.ensures c.if-passes_one.true

pub returns-else-passes_one : goal.returns-else-passes_one
returns-else-passes_one c = leaves_other (piece_of c.args.piece.now) _ _ _ c.passes_one.ensures c.if-passes_one.false _ c.holds_both.ensures
