use Rattle.std.proofs.Common.{◌≡◌, ◌<◌, ℕ, length}
use Rattle.region_rings.specs.Holes.{corner_in, ring_of}
use Rattle.region_rings.specs.Nesting.{IsLeastCorner}
use Rattle.region_rings.proofs.nesting.leasts_of.Given as goal

abbrev pub invariant-loop-number : goal.invariant-loop-number
invariant-loop-number l = record {
  counted : length l.leasts.items ≡ l.number;
  each : (r : ℕ) → r < l.number → IsLeastCorner (ring_of l.points l.ends r) (corner_in l.leasts.items r);
}
