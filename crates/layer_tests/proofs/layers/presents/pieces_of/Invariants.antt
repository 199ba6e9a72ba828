use Rattle.std.proofs.Common.{◌≡◌, ◌++◌, map}
use Rattle.slab_laws.specs.Pieces.{piece_of}
use Rattle.layer_tests.proofs.layers.presents.pieces_of.Given as goal

abbrev pub invariant-loop-piece : goal.invariant-loop-piece
invariant-loop-piece l = map piece_of (l.pieces ++ l.piece-iterator) ≡ l.history.pieces
