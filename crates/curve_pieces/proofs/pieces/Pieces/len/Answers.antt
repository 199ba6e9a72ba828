use Rattle.std.proofs.Common.{sym, ◌∙◌}
use Rattle.curve_pieces.proofs.Changed.{is_counted}
use Rattle.curve_pieces.proofs.pieces.Pieces.len.Goals as goal

pub returns : goal.returns
returns c = c.len.ensures ∙ sym (is_counted c.self.inside.rows c.self.inside.ends c.self.inside.heads _ c.self.view_is c.self.invariant.sound)
