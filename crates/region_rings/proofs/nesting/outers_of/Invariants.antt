use Rattle.std.proofs.Common.{◌≡◌, ◌<◌, ℕ, length, get_or}
use Rattle.std.specs.Prelude.{None}
use Rattle.region_rings.specs.Nesting.{IsOuterOf}
use Rattle.region_rings.proofs.nesting.outers_of.Given as goal

abbrev pub invariant-loop-ring : goal.invariant-loop-ring
invariant-loop-ring l = record {
  counted : length l.outers.items ≡ l.ring;
  each : (r : ℕ) → r < l.ring → IsOuterOf l.points l.ends l.holes l.leasts r (get_or l.outers.items r None);
}
