use Rattle.path_zone.proofs.Starts.{AreStarted}
use Rattle.path_zone.proofs.order.begun_sides.Given as goal

abbrev pub invariant-sides : goal.invariant-sides
invariant-sides l = AreStarted l.sides l.starts l.begun.items l.place
