-- Lines and points.
use Rattle.std.proofs.Common.{◌≡◌, [], ◌∷◌, ℤ, pos, ◌-ℤ◌, ◌*ℤ◌, ◌∙◌, arith}
use Rattle.std.proofs.lemmas.Int.{ints}
use Rattle.exact_plane.specs.Plane.{side, ahead, cross_x, cross_y, cross_w}
use Rattle.integers.proofs.Reify.{ring, sides}

-- ---- the crossing of two lines
module _ (a1 b1 c1 a2 b2 c2 : ℤ) where
  pub cross_on_1 : side a1 b1 c1 (cross_x a1 b1 c1 a2 b2 c2) (cross_y a1 b1 c1 a2 b2 c2) (cross_w a1 b1 c1 a2 b2 c2) ≡ pos 0
  cross_on_1 = ring (a1 ∷ b1 ∷ c1 ∷ a2 ∷ b2 ∷ c2 ∷ []) (search sides depth 40 fits 20000) tt

  pub cross_on_2 : side a2 b2 c2 (cross_x a1 b1 c1 a2 b2 c2) (cross_y a1 b1 c1 a2 b2 c2) (cross_w a1 b1 c1 a2 b2 c2) ≡ pos 0
  cross_on_2 = ring (a1 ∷ b1 ∷ c1 ∷ a2 ∷ b2 ∷ c2 ∷ []) (search sides depth 40 fits 20000) tt

  -- how far the crossing is beyond a point, by the point's sides
  pub cross_ahead : (X Y W : ℤ) → ahead X W (cross_x a1 b1 c1 a2 b2 c2) (cross_w a1 b1 c1 a2 b2 c2) ≡ b1 *ℤ side a2 b2 c2 X Y W -ℤ b2 *ℤ side a1 b1 c1 X Y W
  cross_ahead X Y W = ring (a1 ∷ b1 ∷ c1 ∷ a2 ∷ b2 ∷ c2 ∷ X ∷ Y ∷ W ∷ []) (search sides depth 40 fits 20000) tt

  pub cross_over : (X Y W : ℤ) → ahead Y W (cross_y a1 b1 c1 a2 b2 c2) (cross_w a1 b1 c1 a2 b2 c2) ≡ a2 *ℤ side a1 b1 c1 X Y W -ℤ a1 *ℤ side a2 b2 c2 X Y W
  cross_over X Y W = ring (a1 ∷ b1 ∷ c1 ∷ a2 ∷ b2 ∷ c2 ∷ X ∷ Y ∷ W ∷ []) (search sides depth 40 fits 20000) tt

  -- a point on both lines is the crossing
  pub cross_only : (X Y W : ℤ) → side a1 b1 c1 X Y W ≡ pos 0 → side a2 b2 c2 X Y W ≡ pos 0 → (X *ℤ cross_w a1 b1 c1 a2 b2 c2 ≡ cross_x a1 b1 c1 a2 b2 c2 *ℤ W) × (Y *ℤ cross_w a1 b1 c1 a2 b2 c2 ≡ cross_y a1 b1 c1 a2 b2 c2 *ℤ W)
  cross_only X Y W s1 s2 = (
    same _ _ (cross_ahead X Y W ∙ (λ i. b1 *ℤ s2 i -ℤ b2 *ℤ s1 i) ∙ ring (b1 ∷ b2 ∷ []) (search sides depth 40 fits 20000) tt),
    same _ _ (cross_over X Y W ∙ (λ i. a2 *ℤ s1 i -ℤ a1 *ℤ s2 i) ∙ ring (a1 ∷ a2 ∷ []) (search sides depth 40 fits 20000) tt),
  )
    where
      same : (a b : ℤ) → b -ℤ a ≡ pos 0 → a ≡ b
      same a b e = omega (arith, ints)
