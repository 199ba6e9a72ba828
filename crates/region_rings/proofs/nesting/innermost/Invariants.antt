use Rattle.region_rings.proofs.Nests.{IsFound}
use Rattle.region_rings.proofs.nesting.innermost.Given as goal

abbrev pub invariant-loop-ring : goal.invariant-loop-ring
invariant-loop-ring l = IsFound l.points l.ends l.holes l.leasts l.point l.ring l.found
