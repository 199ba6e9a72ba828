use Rattle.curve_history.proofs.Histories.{sees, same_held, held_same_items}
use Rattle.curve_history.proofs.history.History.same_strands.Goals as goal

pub returns-clause-same : goal.returns-clause-same
returns-clause-same c = λ q. same_held _ _ (sees c.self.inside _ c.self.view_is) c.self.invariant.ordered c.laws.ensures.whole c.args.d c.args.n (c.says_same.ensures.same q)

pub returns-clause-differ : goal.returns-clause-differ
returns-clause-differ c = λ q e. c.says_same.ensures.differ q (held_same_items _ _ (sees c.self.inside _ c.self.view_is) c.self.invariant.ordered c.laws.ensures.whole c.args.d c.args.n e)
