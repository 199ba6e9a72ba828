use Rattle.ring_areas.specs.Walks.{IsRingSum}
use Rattle.ring_areas.proofs.rings.area_of_rings.Given as goal

abbrev pub invariant-loop-ring : goal.invariant-loop-ring
invariant-loop-ring l = IsRingSum l.rings l.ring l.sum
