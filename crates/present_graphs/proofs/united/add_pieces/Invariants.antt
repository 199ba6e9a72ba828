use Rattle.std.proofs.Common.{◌≡◌, ◌++◌, length, map, take}
use Rattle.slab_laws.specs.Pieces.{piece_of}
use Rattle.overlay_laws.specs.United.{numbered_from}
use Rattle.present_graphs.proofs.united.add_pieces.Given as goal

abbrev pub invariant-loop-piece : goal.invariant-loop-piece
invariant-loop-piece l = map piece_of l.all ≡ map piece_of l.fn.all ++ numbered_from (length l.fn.all) (take l.piece-index (map piece_of l.pieces))
