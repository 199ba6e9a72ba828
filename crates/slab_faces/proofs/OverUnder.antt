-- Whether an edge passes over a point or under it, by the sign of its side of the point.
use Rattle.std.proofs.Common.{◌≡◌, true, false, arith, sym}
use Rattle.std.specs.Prelude.{pos, ◌<ℤ◌, ◌≤ℤ◌}
use Rattle.std.proofs.lemmas.Int.{ints}
use Rattle.exact_plane.specs.Point.{Point}
use Rattle.plane_graphs.specs.Graph.{Edge}
use Rattle.slab_laws.specs.Skeleton.{side, over, under}

module _ (e : Edge) (q : Point) where
  -- ---- under it: its side is positive
  pub under_in : pos 0 <ℤ side e q → under e q ≡ true
  unfolding under
  under_in h = sym (omega (arith, ints))

  pub under_out : under e q ≡ true → pos 0 <ℤ side e q
  unfolding under
  under_out h = omega (arith, ints)

  pub not_under : under e q ≡ false → side e q ≤ℤ pos 0
  unfolding under
  not_under h = omega (arith, ints)

  pub weak_under : side e q ≤ℤ pos 0 → under e q ≡ false
  unfolding under
  weak_under h = sym (omega (arith, ints))

  -- ---- over it: its side is negative
  pub over_in : side e q <ℤ pos 0 → over e q ≡ true
  unfolding over
  over_in h = sym (omega (arith, ints))

  pub over_out : over e q ≡ true → side e q <ℤ pos 0
  unfolding over
  over_out h = omega (arith, ints)

  pub not_over : over e q ≡ false → pos 0 ≤ℤ side e q
  unfolding over
  not_over h = omega (arith, ints)

  pub weak_over : pos 0 ≤ℤ side e q → over e q ≡ false
  unfolding over
  weak_over h = sym (omega (arith, ints))

  -- ---- both
  pub positive_not_over : pos 0 <ℤ side e q → over e q ≡ false
  positive_not_over h = weak_over (omega (arith, ints))

  pub negative_not_under : side e q <ℤ pos 0 → under e q ≡ false
  negative_not_under h = weak_under (omega (arith, ints))

  pub zero_not_over : side e q ≡ pos 0 → over e q ≡ false
  zero_not_over h = weak_over (omega (arith, ints))

  pub zero_not_under : side e q ≡ pos 0 → under e q ≡ false
  zero_not_under h = weak_under (omega (arith, ints))

  -- what is under it is not over it
  pub under_not_over : under e q ≡ true → over e q ≡ false
  under_not_over h = positive_not_over (under_out h)

  pub on_neither : over e q ≡ false → under e q ≡ false → side e q ≡ pos 0
  on_neither h k =
      let a = not_over h in
      let b = not_under k in
      omega (arith, ints)
