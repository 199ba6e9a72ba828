use Rattle.curve_history.proofs.Placing.{above_of_edge, ordered_more}
use Rattle.curve_history.proofs.walks.hold_pair.Goals as goal

pub hold_after-requires-clause-place : goal.hold_after-requires-clause-place
hold_after-requires-clause-place c = above_of_edge _ _ _ _ c.last_above-last.ensures

pub returns-clause-ordered : goal.returns-clause-ordered
returns-clause-ordered c = ordered_more _ _ _ _ _ _ c.laws.ensures.whole c.requires.new c.last_above-last.ensures c.hold_after.ensures.more c.hold_after.ensures.put c.requires.ordered
