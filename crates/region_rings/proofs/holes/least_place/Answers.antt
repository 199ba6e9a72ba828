use Rattle.std.proofs.Common.{◌≢◌, ◌+◌, ◌<◌, ℕ, Less, sym, subst}
use Rattle.exact_plane.specs.PointOrder.{point_cmp}
use Rattle.region_rings.specs.Holes.{corner_in}
use Rattle.region_rings.proofs.HoleTells.{one_more}
use Rattle.region_rings.proofs.holes.least_place.Goals as goal

pub loop-place-preserved : goal.loop-place-preserved
loop-place-preserved c = record {
  within = c.lesser_place-least.ensures.within;
  least = subst (λ (k : ℕ). (j : ℕ) → j < c.loop-place.place + 1 → point_cmp (corner_in c.args.ring.now j) (corner_in c.args.ring.now k) ≢ Less) (sym c.lesser_place-least.ensures.value)
      (one_more c.args.ring.now c.loop-place.place c.loop-place.least c.loop-place.invariant.least);
}
