use Rattle.region_rings.specs.Cycles.{AreWalked}
use Rattle.region_rings.proofs.cycles.cycles_of.Given as goal

abbrev pub invariant-loop-first : goal.invariant-loop-first
invariant-loop-first l = AreWalked l.nexts l.first l.places.items l.cycles.order.items l.cycles.ends.items
