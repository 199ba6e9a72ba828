use Rattle.std.proofs.Common.{◌≡◌, ◌<◌, ℕ, false}
use Rattle.region_rings.specs.Holes.{is_wide_at}
use Rattle.region_rings.proofs.holes.is_hole.Given as goal

abbrev pub invariant-loop-place : goal.invariant-loop-place
invariant-loop-place l = (j : ℕ) → j < l.place → is_wide_at l.ring l.least j ≡ false
