use Rattle.curve_history.proofs.Emptying.{one_less}
use Rattle.curve_history.proofs.walks.release_one.Goals as goal

pub returns-in-Some-clause-less : goal.returns-in-Some-clause-less
returns-in-Some-clause-less c = let h = c.in-Some.ensures.some in one_less _ _ _ _ _ (c.release_pair.ensures.less _ _ _ h.1)
