use Rattle.curve_pieces.proofs.Changed.{has_row, next_is}
use Rattle.curve_pieces.proofs.pieces.Pieces.after.Goals as goal

pub index-requires : goal.index-requires
index-requires c = has_row c.self.inside.rows c.self.inside.ends c.self.inside.heads _ c.self.view_is c.self.invariant.sound c.args.name c.requires

pub returns : goal.returns
returns c = next_is c.self.inside.rows c.self.inside.ends c.self.inside.heads _ c.self.view_is c.self.invariant.sound c.args.name _ c.index.ensures
