use Rattle.slab_laws.specs.Pieces.{piece_of}
use Rattle.plain_slabs.proofs.LayerPieces.{both_held, one_missed}
use Rattle.plain_slabs.proofs.layer_table.runs_along.Goals as goal

pub returns-then-holds : goal.returns-then-holds
returns-then-holds c = both_held (piece_of c.args.piece.now) _ c.lower.result c.upper.result c.holds.result c.holds-then-holds.result c.lower.ensures.value c.holds.ensures c.if-holds.true c.holds-then-holds.ensures _ c.upper.ensures

pub returns-else-holds : goal.returns-else-holds
returns-else-holds c = one_missed (piece_of c.args.piece.now) _ _ c.lower.result c.holds.result c.lower.ensures.value c.holds.ensures c.if-holds.false
