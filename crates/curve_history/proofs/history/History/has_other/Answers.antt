use Rattle.curve_history.proofs.Histories.{sees}
use Rattle.curve_history.proofs.Seconds.{other_held}
use Rattle.curve_history.proofs.history.History.has_other.Goals as goal

pub returns : goal.returns
returns c = other_held _ _ (sees c.self.inside _ c.self.view_is) c.args.d _ _ c.says_other.ensures.other c.says_other.ensures.none
