use Rattle.curve_pieces.proofs.Changed.{names_once, within}
use Rattle.curve_pieces.proofs.pieces.Pieces.laws.Goals as goal

pub returns-clause-once : goal.returns-clause-once
returns-clause-once c = names_once c.self.inside.rows c.self.inside.ends c.self.inside.heads _ c.self.view_is c.self.invariant.sound

pub returns-clause-within : goal.returns-clause-within
returns-clause-within c = within c.self.inside.rows c.self.inside.ends c.self.inside.heads _ c.self.view_is c.self.invariant.sound c.capacity-capacity.result c.capacity-capacity.ensures.value c.capacity-capacity.ensures.holds_all
