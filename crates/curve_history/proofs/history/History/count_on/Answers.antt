use Rattle.curve_history.proofs.Histories.{sees, counted_held}
use Rattle.curve_history.proofs.history.History.count_on.Goals as goal

pub returns : goal.returns
returns c = counted_held _ _ (sees c.self.inside _ c.self.view_is) c.self.invariant.ordered c.args.d (c.laws.ensures.whole _) _ c.count_along.ensures
