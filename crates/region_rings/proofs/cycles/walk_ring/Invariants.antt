use Rattle.std.proofs.Common.{length}
use Rattle.dart_orbits.proofs.Walks.{count_unmet}
use Rattle.region_rings.proofs.RingWalks.{IsWalking}
use Rattle.region_rings.proofs.cycles.walk_ring.Given as goal

abbrev pub invariant-ring : goal.invariant-ring
invariant-ring l = IsWalking l.nexts l.first l.fn.order.items l.order.items l.places.items l.number

abbrev pub decreases-ring : goal.decreases-ring
decreases-ring l = count_unmet (length l.nexts) l.places.items
