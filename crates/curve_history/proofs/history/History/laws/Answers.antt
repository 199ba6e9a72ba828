use Rattle.curve_history.proofs.Histories.{sees}
use Rattle.curve_history.proofs.Naming.{held_named, names_ascend, names_within, next_within, pieces_few}
use Rattle.curve_history.proofs.history.History.laws.Goals as goal

pub returns-clause-named : goal.returns-clause-named
returns-clause-named c = held_named _ _ (sees c.self.inside _ c.self.view_is) c.self.invariant.pairs c.laws.ensures.keys

pub returns-clause-ascend : goal.returns-clause-ascend
returns-clause-ascend c = names_ascend _ _ (sees c.self.inside _ c.self.view_is)

pub returns-clause-numbers : goal.returns-clause-numbers
returns-clause-numbers c = names_within _ _ (sees c.self.inside _ c.self.view_is) c.self.invariant.numbers

pub returns-clause-next : goal.returns-clause-next
returns-clause-next c = next_within _ _ (sees c.self.inside _ c.self.view_is) c.self.invariant.last

pub returns-clause-few : goal.returns-clause-few
returns-clause-few c = pieces_few _ _ (sees c.self.inside _ c.self.view_is) c.self.invariant.few
