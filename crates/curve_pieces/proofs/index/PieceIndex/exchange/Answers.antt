use Rattle.curve_pieces.proofs.Indexed.{has_changed}
use Rattle.curve_pieces.proofs.index.PieceIndex.exchange.Goals as goal

pub returns-clause-rows : goal.returns-clause-rows
returns-clause-rows c = λ rows others now i p q w. has_changed c.args.self.now.boxes.entries c.replace.new.self.entries c.entry_of.result c.entry_of-2.result (c.args.name, c.args.old.now) (c.args.name, c.args.new.now) c.replace.result c.entry_of.ensures c.entry_of-2.ensures c.replace.ensures.entries rows others now (i w) p q
