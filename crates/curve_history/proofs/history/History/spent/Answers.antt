use Rattle.curve_history.proofs.Numbers.{spent_is}
use Rattle.curve_history.proofs.history.History.spent.Goals as goal

pub returns : goal.returns
returns c = rw (← c.self.view_is) (spent_is c.self.inside.next c.is_none.result c.self.invariant.last c.is_none.ensures)
