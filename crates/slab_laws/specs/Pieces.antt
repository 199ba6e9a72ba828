-- The model's present of one in memory.
use Rattle.std.specs.Prelude.{map}
use Rattle.plane_graphs.specs.Piece.{Piece, Present}
use Rattle.slab_laws.specs.declared.present.Piece.{Piece as PieceInMemory}
use Rattle.slab_laws.specs.declared.present.Present.{Present as PresentInMemory}

-- a piece, with its curve's number
abbrev pub piece_of : PieceInMemory → Piece
piece_of k = record { curve = k.curve.0; side = k.side; segment = k.segment; from = k.from; to = k.to }

-- the pieces in their order, and the pins
abbrev pub present_of : PresentInMemory → Present
present_of p = record { pieces = map piece_of p.pieces; pins = p.pins }
