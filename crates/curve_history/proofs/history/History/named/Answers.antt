use Rattle.curve_history.proofs.Histories.{sees}
use Rattle.curve_history.proofs.Naming.{counted, count_fits}
use Rattle.curve_history.proofs.history.History.named.Goals as goal

pub overflow_cast-result : goal.overflow_cast-result
overflow_cast-result c = count_fits c.self.inside.by_curve _ _ c.laws.ensures.once c.count_keys.ensures c.self.invariant.last c.self.invariant.numbers

pub returns : goal.returns
returns c = counted _ _ (sees c.self.inside _ c.self.view_is) _ c.laws.ensures.once c.count_keys.ensures
