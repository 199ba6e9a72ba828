use Rattle.curve_pieces.proofs.Changed.{first_is}
use Rattle.curve_pieces.proofs.pieces.Pieces.first.Goals as goal

pub returns : goal.returns
returns c = first_is c.self.inside.rows c.self.inside.ends c.self.inside.heads _ c.self.view_is c.self.invariant.sound
