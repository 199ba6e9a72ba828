use Rattle.curve_pieces.proofs.Changed.{rest_of_all}
use Rattle.curve_pieces.proofs.pieces.Pieces.iter.Goals as goal

pub invariant_of-result : goal.invariant_of-result
invariant_of-result c = rest_of_all c.self.inside.rows c.self.inside.ends c.self.invariant.sound.order
