use Rattle.ring_areas.specs.Walks.{IsPolygonSum}
use Rattle.ring_areas.proofs.rings.area_of_polygon.Given as goal

abbrev pub invariant-loop-ring : goal.invariant-loop-ring
invariant-loop-ring l = IsPolygonSum l.rings l.outer l.ring l.sum
