use Rattle.curve_pieces.proofs.Indexed.{has_grown}
use Rattle.curve_pieces.proofs.index.PieceIndex.put.Goals as goal

pub returns : goal.returns
returns c = λ rows more i p w. has_grown c.args.self.now.boxes.entries c.reserve.new.self.entries c.insert.new.self.entries c.entry_of.result (c.args.name, c.args.piece.now) c.reserve.ensures.entries c.entry_of.ensures c.insert.ensures.entries rows more (i w) p
