use Rattle.std.proofs.Common.{◌≢◌, ◌<◌, ℕ, Less, length}
use Rattle.exact_plane.specs.PointOrder.{point_cmp}
use Rattle.region_rings.specs.Holes.{corner_in}
use Rattle.region_rings.proofs.holes.least_place.Given as goal

abbrev pub invariant-loop-place : goal.invariant-loop-place
invariant-loop-place l = record {
  within : l.least < length l.ring;
  least : (j : ℕ) → j < l.place → point_cmp (corner_in l.ring j) (corner_in l.ring l.least) ≢ Less;
}
