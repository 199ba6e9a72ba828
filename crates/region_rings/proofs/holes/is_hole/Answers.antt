use Rattle.std.proofs.Common.{◌≡◌, true, arith, inl, inr, refl, sym, ap, ◌∙◌}
use Rattle.std.proofs.lemmas.Bool.{cases_lt}
use Rattle.region_rings.specs.Holes.{corner_in, is_wide_at}
use Rattle.region_rings.proofs.HoleTells.{found, none, clash}
use Rattle.region_rings.proofs.holes.is_hole.Goals as goal

pub returns-then-is_wide_at : goal.returns-then-is_wide_at
returns-then-is_wide_at c =
    let ps = c.args.ring.now in
    let m = c.least_place.result in
    let i = c.loop-place.place in
    let wide : is_wide_at ps (corner_in ps m) i ≡ true = ap (λ p. is_wide_at ps p i) (sym c.corner_at-least.ensures) ∙ sym c.is_wide_at.ensures ∙ c.if-is_wide_at.true in
    (λ t. found ps m c.least_place.ensures.within c.least_place.ensures.least i c.loop-place-test.true wide, λ h. refl)

pub loop-place-preserved : goal.loop-place-preserved
loop-place-preserved c = λ j l. elim (cases_lt j c.loop-place.place) [
  | inl a ↦ c.loop-place.invariant j a
  | inr a ↦ (let q : j ≡ c.loop-place.place = omega arith in ap (is_wide_at c.args.ring.now c.corner_at-least.result) q ∙ sym c.is_wide_at.ensures ∙ c.if-is_wide_at.false)
]

pub returns : goal.returns
returns c =
    let ps = c.args.ring.now in
    let m = c.least_place.result in
    let e = c.loop-place-test.false in (
      λ t. clash t,
      λ h. absurd (none ps m c.least_place.ensures.within c.least_place.ensures.least (λ j l. ap (λ p. is_wide_at ps p j) (sym c.corner_at-least.ensures) ∙ c.loop-place.invariant j (omega arith)) h),
    )
