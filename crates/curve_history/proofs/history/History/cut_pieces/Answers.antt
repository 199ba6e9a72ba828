use Rattle.std.proofs.Common.{refl}
use Rattle.curve_history.proofs.Histories.{sees, held_same}
use Rattle.curve_history.proofs.Sides.{same_strands_curves}
use Rattle.curve_history.proofs.history.History.cut_pieces.Goals as goal

pub returns-clause-strands : goal.returns-clause-strands
returns-clause-strands c = held_same _ _ (sees c.self.inside _ c.self.view_is) _ c.self.inside.by_edge refl refl

pub returns-clause-curves : goal.returns-clause-curves
returns-clause-curves c = same_strands_curves _ _ (held_same _ _ (sees c.self.inside _ c.self.view_is) _ c.self.inside.by_edge refl refl)
