use Rattle.curve_pieces.proofs.Indexed.{has_shrunk}
use Rattle.curve_pieces.proofs.index.PieceIndex.take.Goals as goal

pub returns-clause-rows : goal.returns-clause-rows
returns-clause-rows c = λ rows less i p w. has_shrunk c.args.self.now.boxes.entries c.remove.new.self.entries c.entry_of.result (c.args.name, c.args.piece.now) c.remove.result c.entry_of.ensures c.remove.ensures.entries rows less (i w) p
