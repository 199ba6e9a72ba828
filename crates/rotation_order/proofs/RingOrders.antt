-- A strict order makes a round: what is true of numbers is true of four ways by their places among the four.
use Rattle.std.proofs.Common.{◌≡◌, ◌≢◌, ◌⊎◌, inl, inr, ℕ, ◌+◌, ◌<◌, ◌≤◌, Bool, true, false, cond, List, [], ◌∷◌, refl, sym, ◌∙◌, subst, not, ◌&&◌, ◌||◌, arith}
use Rattle.std.proofs.Math.Dec.{ltb}
use Rattle.std.proofs.lemmas.Bool.{cases_Bool}
use Rattle.std.proofs.lemmas.Bool.Decides.{nat_tests}
use Rattle.std.specs.Prelude.{⊤}
use Rattle.rotation_order.specs.RingOrder.{IsRoundOn, IsStrictOn, sooner_by}

-- ---- numbers
nat : ℕ → ℕ → ℕ → Bool
nat d a b = sooner_by ltb d a b

n_apart : (d a b : ℕ) → nat d a b ≡ true → nat d b a ≡ true → ⊥
unfolding nat
n_apart d a b h k = grind (arith, nat_tests)

n_through : (d a b c : ℕ) → nat d a b ≡ true → nat d b c ≡ true → nat d a c ≡ true
unfolding nat
n_through d a b c h k = grind (arith, nat_tests)

n_turned : (d a b : ℕ) → nat d a b ≡ true → b ≢ d → nat a b d ≡ true
unfolding nat
n_turned d a b h k = grind (arith, nat_tests)

n_onward : (a x b c : ℕ) → nat a x b ≡ true → nat a b c ≡ true → nat x b c ≡ true
unfolding nat
n_onward a x b c h k = grind (arith, nat_tests)

n_inward : (a x b c : ℕ) → nat a x c ≡ true → nat x b c ≡ true → nat a b c ≡ true
unfolding nat
n_inward a x b c h k = grind (arith, nat_tests)

one_way : (p q r s : Bool) → r ≡ true → (cond p (not q || r) (not q && r) ≡ true) ⊎ (cond q (not p || s) (not p && s) ≡ true)
one_way true true r s h = inl h
one_way true false r s h = inl refl
one_way false true r s h = inr refl
one_way false false r s h = inl h

other_way : (p q r s : Bool) → s ≡ true → (cond p (not q || r) (not q && r) ≡ true) ⊎ (cond q (not p || s) (not p && s) ≡ true)
other_way true true r s h = inr h
other_way true false r s h = inl refl
other_way false true r s h = inr refl
other_way false false r s h = inr h

-- ---- any strict order, by the places among four
module _ {W : Type 0} (lt : W → W → Bool) (P : W → Type 0) (strict : IsStrictOn lt P) where
  pub not_self : (a : W) → P a → lt a a ≡ false
  not_self a pa = elim (cases_Bool (lt a a)) [ inl y ↦ absurd (strict.itself a pa y) | inr n ↦ n ]

  -- not both ways
  not_back : (a b : W) → P a → P b → lt a b ≡ true → lt b a ≡ false
  not_back a b pa pb h = elim (cases_Bool (lt b a)) [ inl y ↦ absurd (strict.asym a b pa pb h y) | inr n ↦ n ]

  three : (a b : W) → P a → P b → (a ≡ b) ⊎ ((lt a b ≡ true) ⊎ (lt b a ≡ true))
  three a b pa pb =
      elim (cases_Bool (lt a b)) [
        | inl y ↦ inr (inl y)
        | inr n ↦ elim (cases_Bool (lt b a)) [ inl y ↦ inr (inr y) | inr m ↦ inl (strict.total a b pa pb n m) ]
      ]

  -- how many of the list come before z
  place : List W → W → ℕ
  place [] z = 0
  place (x ∷ xs) z = cond (lt x z) 1 0 + place xs z

  abbrev Among : W → List W → Type 0
  Among z [] = ⊥
  Among z (x ∷ xs) = (z ≡ x) ⊎ Among z xs

  -- P holds of all
  abbrev Each : List W → Type 0
  Each [] = ⊤
  Each (x ∷ xs) = P x × Each xs

  of_each : (xs : List W) (z : W) → Each xs → Among z xs → P z
  of_each [] z ps m = absurd m
  of_each (x ∷ xs) z ps (inl q) = subst P (sym q) ps.0
  of_each (x ∷ xs) z ps (inr m) = of_each xs z ps.1 m

  one_at_most : (x a b : W) → P x → P a → P b → lt a b ≡ true → cond (lt x a) 1 0 ≤ cond (lt x b) 1 0
  one_at_most x a b px pa pb h = elim (cases_Bool (lt x a)) [ inl y ↦ rw (y, strict.on x a b px pa pb y h) (omega arith) | inr n ↦ rw n (omega arith) ]

  at_most : (xs : List W) → Each xs → (a b : W) → P a → P b → lt a b ≡ true → place xs a ≤ place xs b
  unfolding place
  at_most [] ps a b pa pb h = omega arith
  at_most (x ∷ xs) ps a b pa pb h = let p = one_at_most x a b ps.0 pa pb h in let q = at_most xs ps.1 a b pa pb h in omega arith

  below : (xs : List W) → Each xs → (a b : W) → P a → P b → Among a xs → lt a b ≡ true → place xs a < place xs b
  unfolding place
  below [] ps a b pa pb m h = absurd m
  below (x ∷ xs) ps a b pa pb (inl q) h =
      let e : lt x a ≡ false = subst (λ z. lt z a ≡ false) q (not_self a pa) in
      let f : lt x b ≡ true = subst (λ z. lt z b ≡ true) q h in
      let r = at_most xs ps.1 a b pa pb h in
      rw (e, f) (omega arith)
  below (x ∷ xs) ps a b pa pb (inr m) h = let p = one_at_most x a b ps.0 pa pb h in let q = below xs ps.1 a b pa pb m h in omega arith

  as_places : (xs : List W) → Each xs → (a b : W) → Among a xs → Among b xs → ltb (place xs a) (place xs b) ≡ lt a b
  as_places xs ps a b ma mb =
      let pa = of_each xs a ps ma in
      let pb = of_each xs b ps mb in
      elim (three a b pa pb) [
        | inl q ↦ subst (λ z. ltb (place xs a) (place xs z) ≡ lt a z) q (let n = not_self a pa in rw n (grind (arith, nat_tests)))
        | inr s ↦ elim s [
          | inl y ↦ let p = below xs ps a b pa pb ma y in rw y (grind (arith, nat_tests))
          | inr y ↦
              let p = below xs ps b a pb pa mb y in
              let f : lt a b ≡ false = not_back b a pb pa y in
              rw f (grind (arith, nat_tests))
        ]
      ]

  as_nat : (xs : List W) → Each xs → (d a b : W) → Among d xs → Among a xs → Among b xs → nat (place xs d) (place xs a) (place xs b) ≡ sooner_by lt d a b
  unfolding nat
  as_nat xs ps d a b md ma mb = rw (as_places xs ps d a md ma, as_places xs ps d b md mb, as_places xs ps a b ma mb) refl

  far : (xs : List W) → Each xs → (a b : W) → Among a xs → Among b xs → a ≢ b → place xs a ≢ place xs b
  far xs ps a b ma mb ne q =
      let pa = of_each xs a ps ma in
      let pb = of_each xs b ps mb in
      elim (three a b pa pb) [
        | inl e ↦ ne e
        | inr s ↦ elim s [
          | inl y ↦ let k = below xs ps a b pa pb ma y in omega arith
          | inr y ↦ let k = below xs ps b a pb pa mb y in omega arith
        ]
      ]

  -- the laws of numbers, for four ways
  module _ (p q r s : W) (pp : P p) (pq : P q) (pr : P r) (ps : P s) where
    all : Each (p ∷ q ∷ r ∷ s ∷ [])
    all = (pp, (pq, (pr, (ps, tt))))

    put : (d a b : W) → Among d (p ∷ q ∷ r ∷ s ∷ []) → Among a (p ∷ q ∷ r ∷ s ∷ []) → Among b (p ∷ q ∷ r ∷ s ∷ []) → sooner_by lt d a b ≡ true → nat (place (p ∷ q ∷ r ∷ s ∷ []) d) (place (p ∷ q ∷ r ∷ s ∷ []) a) (place (p ∷ q ∷ r ∷ s ∷ []) b) ≡ true
    put d a b md ma mb h = as_nat (p ∷ q ∷ r ∷ s ∷ []) all d a b md ma mb ∙ h

    got : (d a b : W) → Among d (p ∷ q ∷ r ∷ s ∷ []) → Among a (p ∷ q ∷ r ∷ s ∷ []) → Among b (p ∷ q ∷ r ∷ s ∷ []) → nat (place (p ∷ q ∷ r ∷ s ∷ []) d) (place (p ∷ q ∷ r ∷ s ∷ []) a) (place (p ∷ q ∷ r ∷ s ∷ []) b) ≡ true → sooner_by lt d a b ≡ true
    got d a b md ma mb h = sym (as_nat (p ∷ q ∷ r ∷ s ∷ []) all d a b md ma mb) ∙ h

    i0 : Among p (p ∷ q ∷ r ∷ s ∷ [])
    i0 = inl refl

    i1 : Among q (p ∷ q ∷ r ∷ s ∷ [])
    i1 = inr (inl refl)

    i2 : Among r (p ∷ q ∷ r ∷ s ∷ [])
    i2 = inr (inr (inl refl))

    i3 : Among s (p ∷ q ∷ r ∷ s ∷ [])
    i3 = inr (inr (inr (inl refl)))

    apart_of : sooner_by lt p q r ≡ true → sooner_by lt p r q ≡ true → ⊥
    apart_of h k = n_apart _ _ _ (put p q r i0 i1 i2 h) (put p r q i0 i2 i1 k)

    through_of : sooner_by lt p q r ≡ true → sooner_by lt p r s ≡ true → sooner_by lt p q s ≡ true
    through_of h k = got p q s i0 i1 i3 (n_through _ _ _ _ (put p q r i0 i1 i2 h) (put p r s i0 i2 i3 k))

    turned_of : sooner_by lt p q r ≡ true → r ≢ p → sooner_by lt q r p ≡ true
    turned_of h ne = got q r p i1 i2 i0 (n_turned _ _ _ (put p q r i0 i1 i2 h) (far (p ∷ q ∷ r ∷ s ∷ []) all r p i2 i0 ne))

    onward_of : sooner_by lt p q r ≡ true → sooner_by lt p r s ≡ true → sooner_by lt q r s ≡ true
    onward_of h k = got q r s i1 i2 i3 (n_onward _ _ _ _ (put p q r i0 i1 i2 h) (put p r s i0 i2 i3 k))

    inward_of : sooner_by lt p q s ≡ true → sooner_by lt q r s ≡ true → sooner_by lt p r s ≡ true
    inward_of h k = got p r s i0 i2 i3 (n_inward _ _ _ _ (put p q s i0 i1 i3 h) (put q r s i1 i2 i3 k))

  either_by : (d a b : W) → (a ≡ b) ⊎ ((lt a b ≡ true) ⊎ (lt b a ≡ true)) → a ≢ b → (sooner_by lt d a b ≡ true) ⊎ (sooner_by lt d b a ≡ true)
  either_by d a b (inl e) ne = absurd (ne e)
  either_by d a b (inr s) ne = elim s [ inl y ↦ one_way (lt d a) (lt d b) (lt a b) (lt b a) y | inr y ↦ other_way (lt d a) (lt d b) (lt a b) (lt b a) y ]

  last_by : (d a : W) → P d → P a → (a ≡ d) ⊎ ((lt a d ≡ true) ⊎ (lt d a ≡ true)) → a ≢ d → sooner_by lt d a d ≡ true
  last_by d a pd pa (inl e) ne = absurd (ne e)
  last_by d a pd pa (inr s) ne =
      elim s [
        | inl y ↦ (let n = not_back a d pa pd y in rw (n, not_self d pd, y) refl)
        | inr y ↦ rw (y, not_self d pd) refl
      ]

  pub round_by : IsRoundOn (sooner_by lt) P
  round_by = record {
    apart = λ d a b pd pa pb h k. apart_of d a b d pd pa pb pd h k;
    through = λ d a b c pd pa pb pc h k. through_of d a b c pd pa pb pc h k;
    either = λ d a b pd pa pb ne. either_by d a b (three a b pa pb) ne;
    last = λ d a pd pa ne. last_by d a pd pa (three a d pa pd) ne;
    turned = λ d a b pd pa pb h ne. turned_of d a b d pd pa pb pd h ne;
    onward = λ a x b c pa px pb pc h k. onward_of a x b c pa px pb pc h k;
    inward = λ a x b c pa px pb pc h k. inward_of a x b c pa px pb pc h k;
  }
