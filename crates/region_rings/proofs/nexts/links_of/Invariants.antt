use Rattle.std.proofs.Common.{◌≡◌, ◌+◌, ◌<◌, ℕ, false, length, slice_index_or}
use Rattle.region_rings.specs.Spokes.{spoke_in}
use Rattle.region_rings.specs.Nexts.{IsFirstAt, IsLinkFrom}
use Rattle.region_rings.proofs.nexts.links_of.Given as goal

abbrev pub invariant-loop-place : goal.invariant-loop-place
invariant-loop-place l = record {
  counted : length l.nexts.items ≡ length l.darts;
  first : (i : ℕ) → l.place ≡ i + 1 → IsFirstAt l.spokes i l.first;
  each : (i : ℕ) → i < l.place → (spoke_in l.spokes i).is_out ≡ false → IsLinkFrom l.spokes i (slice_index_or l.nexts.items (spoke_in l.spokes i).dart 0);
}
