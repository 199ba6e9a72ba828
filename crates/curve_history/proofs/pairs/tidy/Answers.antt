use Rattle.curve_history.proofs.Walking.{none_from, some_from, filled_all, filled_others}
use Rattle.curve_history.proofs.pairs.tidy.Goals as goal

pub drop_key-requires : goal.drop_key-requires
drop_key-requires c = none_from _ _ _ c.first.ensures c.is_none.ensures c.if-is_none.true

pub returns-then-is_none-clause-filled : goal.returns-then-is_none-clause-filled
returns-then-is_none-clause-filled c = filled_others _ _ _ c.drop_key.ensures.nodes c.requires c.drop_key.ensures.keys

pub returns-else-is_none-clause-filled : goal.returns-else-is_none-clause-filled
returns-else-is_none-clause-filled c = filled_all _ _ c.requires (c.laws.ensures.whole _) (some_from _ _ _ c.first.ensures c.is_none.ensures c.if-is_none.false)
