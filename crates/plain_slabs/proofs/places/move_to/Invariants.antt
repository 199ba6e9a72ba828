use Rattle.std.proofs.Common.{◌≡◌, map, take}
use Rattle.plain_slabs.specs.PlaceTables.{place_in}
use Rattle.plain_slabs.proofs.places.move_to.Given as goal

abbrev pub invariant-loop-k : goal.invariant-loop-k
invariant-loop-k l = l.below.items ≡ map (place_in l.reaches l.slab) (take l.k l.reaches)
