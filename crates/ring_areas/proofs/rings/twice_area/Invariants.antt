use Rattle.ring_areas.specs.Walks.{IsSideSum}
use Rattle.ring_areas.proofs.rings.twice_area.Given as goal

abbrev pub invariant-loop-place : goal.invariant-loop-place
invariant-loop-place l = IsSideSum l.ring l.place l.sum
