use Rattle.curve_pieces.proofs.Changed.{has_row, here_row}
use Rattle.curve_pieces.proofs.pieces.Pieces.piece.Goals as goal

pub index-requires : goal.index-requires
index-requires c = has_row c.self.inside.rows c.self.inside.ends c.self.inside.heads _ c.self.view_is c.self.invariant.sound c.args.name c.requires

pub returns : goal.returns
returns c = here_row c.self.inside.rows c.self.inside.ends c.self.inside.heads _ c.self.view_is c.self.invariant.sound c.args.name _ c.index.ensures
