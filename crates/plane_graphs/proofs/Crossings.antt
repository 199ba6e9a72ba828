-- Lines and points by their numbers: what vanishes on two lines, and the line through two points.
use Rattle.std.proofs.Common.{◌≡◌, [], ◌∷◌, ℤ, pos, ◌+ℤ◌, ◌-ℤ◌, ◌*ℤ◌, ◌<ℤ◌, neg_ℤ, ◌∙◌, arith, inl, inr}
use Rattle.std.proofs.lemmas.Int.{ints}
use Rattle.integers.proofs.Reify.{ring, sides}
use Rattle.integers.proofs.Signs.{cancel_zero}
use Rattle.exact_plane.specs.Plane.{side, RunsForward}

-- ---- what vanishes on one line vanishes on another with the same numbers up to a factor
module _ (a1 b1 c1 a2 b2 c2 X Y W : ℤ) (ew : a1 *ℤ b2 -ℤ a2 *ℤ b1 ≡ pos 0) (ex : b1 *ℤ c2 -ℤ b2 *ℤ c1 ≡ pos 0) (ey : c1 *ℤ a2 -ℤ c2 *ℤ a1 ≡ pos 0) (s : side a1 b1 c1 X Y W ≡ pos 0) where
  by_b : side a2 b2 c2 X Y W *ℤ b1 ≡ pos 0
  by_b =
      ring (a1 ∷ b1 ∷ c1 ∷ a2 ∷ b2 ∷ c2 ∷ X ∷ Y ∷ W ∷ []) (search sides depth 40 fits 20000) tt
      ∙ (λ i. b2 *ℤ s i -ℤ X *ℤ ew i +ℤ W *ℤ ex i)
      ∙ ring (b2 ∷ X ∷ W ∷ []) (search sides depth 40 fits 20000) tt

  by_a : side a2 b2 c2 X Y W *ℤ neg_ℤ a1 ≡ pos 0
  by_a =
      ring (a1 ∷ b1 ∷ c1 ∷ a2 ∷ b2 ∷ c2 ∷ X ∷ Y ∷ W ∷ []) (search sides depth 40 fits 20000) tt
      ∙ (λ i. W *ℤ ey i -ℤ Y *ℤ ew i -ℤ a2 *ℤ s i)
      ∙ ring (a2 ∷ Y ∷ W ∷ []) (search sides depth 40 fits 20000) tt

  pub zero_too : RunsForward a1 b1 → side a2 b2 c2 X Y W ≡ pos 0
  zero_too (inl h) = cancel_zero h by_b
  zero_too (inr h) = cancel_zero {k = neg_ℤ a1} (let n : a1 <ℤ pos 0 = h.1 in omega (arith, ints)) by_a

-- the line of two points of a line has its numbers, up to a factor
module _ (a b c X1 Y1 W1 X2 Y2 W2 : ℤ) (s1 : side a b c X1 Y1 W1 ≡ pos 0) (s2 : side a b c X2 Y2 W2 ≡ pos 0) where
  pub spans_w : a *ℤ (X2 *ℤ W1 -ℤ X1 *ℤ W2) -ℤ (Y1 *ℤ W2 -ℤ Y2 *ℤ W1) *ℤ b ≡ pos 0
  spans_w = ring (a ∷ b ∷ c ∷ X1 ∷ Y1 ∷ W1 ∷ X2 ∷ Y2 ∷ W2 ∷ []) (search sides depth 40 fits 20000) tt ∙ (λ i. W1 *ℤ s2 i -ℤ W2 *ℤ s1 i) ∙ ring (W1 ∷ W2 ∷ []) (search sides depth 40 fits 20000) tt

  pub spans_x : b *ℤ (X1 *ℤ Y2 -ℤ X2 *ℤ Y1) -ℤ (X2 *ℤ W1 -ℤ X1 *ℤ W2) *ℤ c ≡ pos 0
  spans_x = ring (a ∷ b ∷ c ∷ X1 ∷ Y1 ∷ W1 ∷ X2 ∷ Y2 ∷ W2 ∷ []) (search sides depth 40 fits 20000) tt ∙ (λ i. X1 *ℤ s2 i -ℤ X2 *ℤ s1 i) ∙ ring (X1 ∷ X2 ∷ []) (search sides depth 40 fits 20000) tt

  pub spans_y : c *ℤ (Y1 *ℤ W2 -ℤ Y2 *ℤ W1) -ℤ (X1 *ℤ Y2 -ℤ X2 *ℤ Y1) *ℤ a ≡ pos 0
  spans_y = ring (a ∷ b ∷ c ∷ X1 ∷ Y1 ∷ W1 ∷ X2 ∷ Y2 ∷ W2 ∷ []) (search sides depth 40 fits 20000) tt ∙ (λ i. Y1 *ℤ s2 i -ℤ Y2 *ℤ s1 i) ∙ ring (Y1 ∷ Y2 ∷ []) (search sides depth 40 fits 20000) tt

pub turned : (a b c d : ℤ) → a *ℤ b -ℤ c *ℤ d ≡ pos 0 → c *ℤ d -ℤ a *ℤ b ≡ pos 0
turned a b c d e = omega (arith, ints)

-- ---- numbers divided by a positive one
pub minus_times : (a g : ℤ) → neg_ℤ a *ℤ g ≡ neg_ℤ (a *ℤ g)
minus_times a g = ring (a ∷ g ∷ []) (search sides depth 40 fits 20000) tt

pub scaled : (a b c A B C g X Y W : ℤ) → pos 0 <ℤ g → a *ℤ g ≡ A → b *ℤ g ≡ B → c *ℤ g ≡ C → side A B C X Y W ≡ pos 0 → side a b c X Y W ≡ pos 0
scaled a b c A B C g X Y W h ea eb ec s = cancel_zero h (ring (a ∷ b ∷ c ∷ g ∷ X ∷ Y ∷ W ∷ []) (search sides depth 40 fits 20000) tt ∙ (λ i. side (ea i) (eb i) (ec i) X Y W) ∙ s)

-- both points are on the line through them
pub first_end : (X1 Y1 W1 X2 Y2 W2 : ℤ) → side (Y1 *ℤ W2 -ℤ Y2 *ℤ W1) (X2 *ℤ W1 -ℤ X1 *ℤ W2) (X1 *ℤ Y2 -ℤ X2 *ℤ Y1) X1 Y1 W1 ≡ pos 0
first_end X1 Y1 W1 X2 Y2 W2 = ring (X1 ∷ Y1 ∷ W1 ∷ X2 ∷ Y2 ∷ W2 ∷ []) (search sides depth 40 fits 20000) tt

pub last_end : (X1 Y1 W1 X2 Y2 W2 : ℤ) → side (Y1 *ℤ W2 -ℤ Y2 *ℤ W1) (X2 *ℤ W1 -ℤ X1 *ℤ W2) (X1 *ℤ Y2 -ℤ X2 *ℤ Y1) X2 Y2 W2 ≡ pos 0
last_end X1 Y1 W1 X2 Y2 W2 = ring (X1 ∷ Y1 ∷ W1 ∷ X2 ∷ Y2 ∷ W2 ∷ []) (search sides depth 40 fits 20000) tt
