use Rattle.std.proofs.Common.{◌≡◌, ◌<◌, ℕ, false, length, slice_index_or}
use Rattle.std.specs.Prelude.{◌↔◌, IsTrue}
use Rattle.region_rings.specs.Holes.{IsHole, ring_of}
use Rattle.region_rings.proofs.holes.holes_of.Given as goal

abbrev pub invariant-loop-ring : goal.invariant-loop-ring
invariant-loop-ring l = record {
  counted : length l.holes.items ≡ l.ring;
  each : (r : ℕ) → r < l.ring → IsTrue (slice_index_or l.holes.items r false) ↔ IsHole (ring_of l.points l.ends r);
}
