use Rattle.std.proofs.Common.{ap}
use Rattle.std.specs.Prelude.{negsuc}
use Rattle.curve_pieces.specs.PieceRows.{entries_of}
use Rattle.curve_pieces.proofs.Changed.{rows_seen}
use Rattle.curve_pieces.proofs.Indexed.{above_in, rows_are}
use Rattle.curve_pieces.proofs.pieces.Pieces.box_laws.Goals as goal

pub returns : goal.returns
returns c = λ indexed. above_in (negsuc 2147483647) c.self.inside.index.boxes.entries (entries_of c.args.self.now.rows) (rows_are c.self.inside.index _ _ c.self.invariant.boxes (rows_seen c.self.inside.rows c.self.inside.ends c.self.inside.heads _ c.self.view_is c.self.invariant.sound) _ (ap (λ z. z.indexed) c.self.view_is) indexed) c.laws.ensures
