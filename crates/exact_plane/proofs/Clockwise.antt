-- The clockwise order, by the three turns between three directions.
use Rattle.std.proofs.Common.{◌≡◌, [], ◌∷◌, ℤ, pos, ◌+ℤ◌, ◌-ℤ◌, ◌*ℤ◌, ◌<ℤ◌, neg_ℤ, refl, ap, ◌∙◌, arith, inl, inr, Ordering, Less, Equal, Greater}
use Rattle.std.specs.Prelude.{◌⊎◌, ◌↔◌}
use Rattle.std.specs.Ordering.{int_cmp, nat_cmp, ordering_then}
use Rattle.std.proofs.lemmas.Int.{ints}
use Rattle.integers.proofs.Compare.{less_out, less_in, equal_out, greater_out}
use Rattle.integers.proofs.Reify.{ring, sides}
use Rattle.integers.proofs.Signs.{mul_pos, diff_pos, cancel_zero, below_by}
use Rattle.exact_plane.specs.Direction.{Direction, IsDirection, IsOneDirection, IsClockwise, turn, along, quarter, by_turn, turn_cmp}
use Rattle.exact_plane.proofs.Turns.{not_square}

-- the turn from a to b, by how both stand to f
turn_by : (f a b : Direction) → (f.x *ℤ f.x +ℤ f.y *ℤ f.y) *ℤ turn a b ≡ along f a *ℤ turn f b -ℤ along f b *ℤ turn f a
turn_by f a b = ring (f.x ∷ f.y ∷ a.x ∷ a.y ∷ b.x ∷ b.y ∷ []) (search sides depth 40 fits 20000) tt

turn_back : (f b : Direction) → turn b f ≡ neg_ℤ (turn f b)
turn_back f b = ring (f.x ∷ f.y ∷ b.x ∷ b.y ∷ []) (search sides depth 40 fits 20000) tt

-- the sign of t, where k times it is p q - r s
module _ (k t p q r s : ℤ) (h : pos 0 <ℤ k) (e : k *ℤ t ≡ p *ℤ q -ℤ r *ℤ s) where
  below_first : q ≡ pos 0 → r <ℤ pos 0 → s <ℤ pos 0 → t <ℤ pos 0
  below_first z m n =
      below_by {a = t} {b = pos 0} h (mul_pos (diff_pos m) (diff_pos n))
      (ring (k ∷ t ∷ []) (search sides depth 40 fits 20000) tt ∙ ap neg_ℤ e ∙ (λ i. neg_ℤ (p *ℤ z i -ℤ r *ℤ s)) ∙ ring (p ∷ r ∷ s ∷ []) (search sides depth 40 fits 20000) tt)

  above_first : q ≡ pos 0 → pos 0 <ℤ r → s <ℤ pos 0 → pos 0 <ℤ t
  above_first z m n =
      below_by {a = pos 0} {b = t} h (mul_pos m (diff_pos n))
      (ring (k ∷ t ∷ []) (search sides depth 40 fits 20000) tt ∙ e ∙ (λ i. p *ℤ z i -ℤ r *ℤ s) ∙ ring (p ∷ r ∷ s ∷ []) (search sides depth 40 fits 20000) tt)

  below_second : s ≡ pos 0 → p <ℤ pos 0 → pos 0 <ℤ q → t <ℤ pos 0
  below_second z m n =
      below_by {a = t} {b = pos 0} h (mul_pos (diff_pos m) n)
      (ring (k ∷ t ∷ []) (search sides depth 40 fits 20000) tt ∙ ap neg_ℤ e ∙ (λ i. neg_ℤ (p *ℤ q -ℤ r *ℤ z i)) ∙ ring (p ∷ q ∷ r ∷ []) (search sides depth 40 fits 20000) tt)

  zero_both : q ≡ pos 0 → s ≡ pos 0 → t ≡ pos 0
  zero_both z w =
      cancel_zero h
      (ring (k ∷ t ∷ []) (search sides depth 40 fits 20000) tt ∙ e ∙ (λ i. p *ℤ z i -ℤ r *ℤ w i) ∙ ring (p ∷ r ∷ []) (search sides depth 40 fits 20000) tt)

-- of three facts two hold
abbrev TwoOf : Type 0 → Type 0 → Type 0 → Type 0
TwoOf P Q R = (P × Q) ⊎ ((Q × R) ⊎ (R × P))

module _ {P Q R : Type 0} where
  only_second : (P → ⊥) → (R → ⊥) → TwoOf P Q R → ⊥
  only_second p r (inl h) = p h.0
  only_second p r (inr (inl h)) = r h.1
  only_second p r (inr (inr h)) = r h.0

  only_first : (Q → ⊥) → (R → ⊥) → TwoOf P Q R → ⊥
  only_first q r (inl h) = q h.1
  only_first q r (inr (inl h)) = q h.0
  only_first q r (inr (inr h)) = r h.0

  not_third : (R → ⊥) → TwoOf P Q R → Q
  not_third r (inl h) = h.1
  not_third r (inr (inl h)) = h.0
  not_third r (inr (inr h)) = absurd (r h.0)

  not_first : (P → ⊥) → TwoOf P Q R → Q
  not_first p (inl h) = h.1
  not_first p (inr (inl h)) = h.0
  not_first p (inr (inr h)) = absurd (p h.1)

  neither : {A : Type 0} → (A → ⊥) → (TwoOf P Q R → ⊥) → A ↔ TwoOf P Q R
  neither a b = (λ h. absurd (a h), λ h. absurd (b h))

  always : {A : Type 0} → A → TwoOf P Q R → A ↔ TwoOf P Q R
  always a b = (λ h. b, λ h. a)

greater_isnt_less : Greater ≡ Less → ⊥
greater_isnt_less h = cc

not_less : (z : ℤ) → z ≡ pos 0 → z <ℤ pos 0 → ⊥
not_less z e h = omega (arith, ints)

not_below : (z : ℤ) → pos 0 <ℤ z → z <ℤ pos 0 → ⊥
not_below z k h = omega (arith, ints)

-- what a number says of its opposite
module _ (z y : ℤ) (e : y ≡ neg_ℤ z) where
  turned_below : pos 0 <ℤ z → y <ℤ pos 0
  turned_below h = omega (arith, ints)

  turned_above : z <ℤ pos 0 → y <ℤ pos 0 → ⊥
  turned_above h k = omega (arith, ints)

  turned_zero : z ≡ pos 0 → y <ℤ pos 0 → ⊥
  turned_zero h k = omega (arith, ints)

module _ (f a b : Direction) (hf : IsDirection f) (ha : IsDirection a) (hb : IsDirection b) (n : IsOneDirection f a → ⊥) where
  -- one of the two is opposite to f, or b is f itself
  b_opposite : turn f b ≡ pos 0 → along f b <ℤ pos 0 → turn f a <ℤ pos 0 → turn a b <ℤ pos 0
  b_opposite = below_first (f.x *ℤ f.x +ℤ f.y *ℤ f.y) (turn a b) (along f a) (turn f b) (along f b) (turn f a) hf.some (turn_by f a b)

  b_first : turn f b ≡ pos 0 → pos 0 <ℤ along f b → turn f a <ℤ pos 0 → pos 0 <ℤ turn a b
  b_first = above_first (f.x *ℤ f.x +ℤ f.y *ℤ f.y) (turn a b) (along f a) (turn f b) (along f b) (turn f a) hf.some (turn_by f a b)

  a_opposite : turn f a ≡ pos 0 → along f a <ℤ pos 0 → pos 0 <ℤ turn f b → turn a b <ℤ pos 0
  a_opposite = below_second (f.x *ℤ f.x +ℤ f.y *ℤ f.y) (turn a b) (along f a) (turn f b) (along f b) (turn f a) hf.some (turn_by f a b)

  both_opposite : turn f b ≡ pos 0 → turn f a ≡ pos 0 → turn a b ≡ pos 0
  both_opposite = zero_both (f.x *ℤ f.x +ℤ f.y *ℤ f.y) (turn a b) (along f a) (turn f b) (along f b) (turn f a) hf.some (turn_by f a b)

  back_below : pos 0 <ℤ turn f b → turn b f <ℤ pos 0
  back_below = turned_below (turn f b) (turn b f) (turn_back f b)

  back_above : turn f b <ℤ pos 0 → turn b f <ℤ pos 0 → ⊥
  back_above = turned_above (turn f b) (turn b f) (turn_back f b)

  back_zero : turn f b ≡ pos 0 → turn b f <ℤ pos 0 → ⊥
  back_zero = turned_zero (turn f b) (turn b f) (turn_back f b)

  sorted : (o d o' d' : Ordering) → int_cmp (turn f a) (pos 0) ≡ o → int_cmp (along f a) (pos 0) ≡ d → int_cmp (turn f b) (pos 0) ≡ o' → int_cmp (along f b) (pos 0) ≡ d' →
      (ordering_then (nat_cmp (quarter o d) (quarter o' d')) (by_turn a b) ≡ Less) ↔ IsClockwise f a b
  sorted Less d Less d' u v u' v' = (
    λ h. inl (less_out (turn f a) (pos 0) u, less_out (turn a b) (pos 0) h),
    λ c. less_in (turn a b) (pos 0) (not_third (back_above (less_out (turn f b) (pos 0) u')) c),
  )
  sorted Less d Equal Less u v u' v' = always refl (inl (less_out (turn f a) (pos 0) u, b_opposite (equal_out (turn f b) (pos 0) u') (less_out (along f b) (pos 0) v') (less_out (turn f a) (pos 0) u)))
  sorted Less d Equal Equal u v u' v' = absurd (not_square f a b hf ha hb b hb (equal_out (turn f b) (pos 0) u') (equal_out (along f b) (pos 0) v'))
  sorted Less d Equal Greater u v u' v' =
      neither greater_isnt_less (only_first (not_below (turn a b) (b_first (equal_out (turn f b) (pos 0) u') (greater_out (along f b) (pos 0) v') (less_out (turn f a) (pos 0) u))) (back_zero (equal_out (turn f b) (pos 0) u')))
  sorted Less d Greater d' u v u' v' = always refl (inr (inr (back_below (greater_out (turn f b) (pos 0) u'), less_out (turn f a) (pos 0) u)))
  sorted Equal Equal o' d' u v u' v' = absurd (not_square f a b hf ha hb a ha (equal_out (turn f a) (pos 0) u) (equal_out (along f a) (pos 0) v))
  sorted Equal Greater o' d' u v u' v' = absurd (n (record { straight = equal_out _ _ u; forward = greater_out _ _ v }))
  sorted Equal Less Less d' u v u' v' = neither greater_isnt_less (only_second (not_less (turn f a) (equal_out (turn f a) (pos 0) u)) (back_above (less_out (turn f b) (pos 0) u')))
  sorted Equal Less Equal Greater u v u' v' = neither greater_isnt_less (only_second (not_less (turn f a) (equal_out (turn f a) (pos 0) u)) (back_zero (equal_out (turn f b) (pos 0) u')))
  sorted Equal Less Equal Equal u v u' v' = absurd (not_square f a b hf ha hb b hb (equal_out (turn f b) (pos 0) u') (equal_out (along f b) (pos 0) v'))
  sorted Equal Less Equal Less u v u' v' =
      let z = both_opposite (equal_out (turn f b) (pos 0) u') (equal_out (turn f a) (pos 0) u) in
      neither (λ h. not_less (turn a b) z (less_out (turn a b) (pos 0) h)) (only_second (not_less (turn f a) (equal_out (turn f a) (pos 0) u)) (back_zero (equal_out (turn f b) (pos 0) u')))
  sorted Equal Less Greater d' u v u' v' = always refl (inr (inl (a_opposite (equal_out (turn f a) (pos 0) u) (less_out (along f a) (pos 0) v) (greater_out (turn f b) (pos 0) u'), back_below (greater_out (turn f b) (pos 0) u'))))
  sorted Greater d Less d' u v u' v' = neither greater_isnt_less (only_second (not_below (turn f a) (greater_out (turn f a) (pos 0) u)) (back_above (less_out (turn f b) (pos 0) u')))
  sorted Greater d Equal Less u v u' v' = neither greater_isnt_less (only_second (not_below (turn f a) (greater_out (turn f a) (pos 0) u)) (back_zero (equal_out (turn f b) (pos 0) u')))
  sorted Greater d Equal Equal u v u' v' = neither greater_isnt_less (only_second (not_below (turn f a) (greater_out (turn f a) (pos 0) u)) (back_zero (equal_out (turn f b) (pos 0) u')))
  sorted Greater d Equal Greater u v u' v' = neither greater_isnt_less (only_second (not_below (turn f a) (greater_out (turn f a) (pos 0) u)) (back_zero (equal_out (turn f b) (pos 0) u')))
  sorted Greater d Greater d' u v u' v' = (
    λ h. inr (inl (less_out (turn a b) (pos 0) h, back_below (greater_out (turn f b) (pos 0) u'))),
    λ c. less_in (turn a b) (pos 0) (not_first (not_below (turn f a) (greater_out (turn f a) (pos 0) u)) c),
  )

  pub clockwise : (turn_cmp f a b ≡ Less) ↔ IsClockwise f a b
  clockwise = sorted _ _ _ _ refl refl refl refl
