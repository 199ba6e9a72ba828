use Rattle.curve_history.proofs.Histories.{sees}
use Rattle.curve_history.proofs.Naming.{told_by_key}
use Rattle.curve_history.proofs.history.History.has_curves.Goals as goal

pub returns : goal.returns
returns c = told_by_key _ _ (sees c.self.inside _ c.self.view_is) c.args.d _ c.has_key.ensures c.self.invariant.filled c.laws.ensures.keys
