use Rattle.std.proofs.Common.{arith}
use Rattle.record_orders.proofs.cycles.CycleKey.is_of.Goals as goal

pub returns : goal.returns
returns c = grind (arith, c.eq.ensures)
