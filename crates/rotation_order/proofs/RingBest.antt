-- The best of a list by an order that is total on what P holds of, and the elements of a list by recursion.
use Rattle.std.proofs.Common.{◌≡◌, ◌≢◌, ◌⊎◌, inl, inr, ℕ, zero, suc, Bool, true, false, cond, List, [], ◌∷◌, refl, sym, ◌∙◌, subst, arith}
use Rattle.std.specs.List.{Contains}
use Rattle.std.proofs.lemmas.Bool.{cases_eq, false≢true}

-- ---- an element of a list
abbrev pub In : ℕ → List ℕ → Type 0
In c [] = ⊥
In c (x ∷ xs) = (c ≡ x) ⊎ In c xs

pub in_contains : (xs : List ℕ) (c : ℕ) → In c xs → Contains xs c
in_contains [] c m = absurd m
in_contains (x ∷ xs) c (inl e) = (0, omega arith, sym e)
in_contains (x ∷ xs) c (inr m) = let k : Contains xs c = in_contains xs c m in (suc k.0, omega (arith, k.1), k.2)

pub contains_in : (xs : List ℕ) (c : ℕ) → Contains xs c → In c xs
contains_in [] c k = absurd (omega (arith, k.1))
contains_in (x ∷ xs) c (zero, h, e) = inl (sym e)
contains_in (x ∷ xs) c (suc k, h, e) = inr (contains_in xs c (k, omega arith, e))

-- ---- the best of a first one and those of a list
abbrev pub pick : (ℕ → ℕ → Bool) → ℕ → List ℕ → ℕ
pick before best [] = best
pick before best (c ∷ cs) = pick before (cond (before c best) c best) cs

module _ (before : ℕ → ℕ → Bool) (P : ℕ → Type 0) (through : (a b c : ℕ) → P a → P b → P c → before a b ≡ true → before b c ≡ true → before a c ≡ true) (either : (a b : ℕ) → P a → P b → a ≢ b → (before a b ≡ true) ⊎ (before b a ≡ true)) where
  abbrev Picked : ℕ → List ℕ → ℕ → Type 0
  Picked best cs r = P r × ((c : ℕ) → (c ≡ best) ⊎ In c cs → P c → c ≢ r → before r c ≡ true)

  -- which of the two is kept is at most both
  step : (best c : ℕ) (cs : List ℕ) (r : ℕ) (b : Bool) → before c best ≡ b → P best → P c → Picked (cond b c best) cs r → Picked best (c ∷ cs) r
  step best c cs r true e pb pc h =
      (h.0, λ k m pk ne. elim m [ inl q ↦ at_best k q pk ne (cases_eq c r) | inr m' ↦ h.1 k m' pk ne ])
    where
      at_best : (k : ℕ) → k ≡ best → P k → k ≢ r → (c ≡ r) ⊎ (c ≢ r) → before r k ≡ true
      at_best k q pk ne (inl s) = subst (λ z. before r z ≡ true) (sym q) (subst (λ z. before z best ≡ true) s e)
      at_best k q pk ne (inr s) = subst (λ z. before r z ≡ true) (sym q) (through r c best h.0 pc pb (h.1 c (inl refl) pc s) e)
  step best c cs r false e pb pc h =
      (h.0, λ k m pk ne. elim m [ inl q ↦ h.1 k (inl q) pk ne | inr m' ↦ elim m' [ inl q ↦ at_c k q pk ne (cases_eq c best) (cases_eq best r) | inr m'' ↦ h.1 k (inr m'') pk ne ] ])
    where
      at_c : (k : ℕ) → k ≡ c → P k → k ≢ r → (c ≡ best) ⊎ (c ≢ best) → (best ≡ r) ⊎ (best ≢ r) → before r k ≡ true
      at_c k q pk ne (inl s) t = h.1 k (inl (q ∙ s)) pk ne
      at_c k q pk ne (inr s) t =
          let l : before best c ≡ true = elim (either c best pc pb s) [ inl y ↦ absurd (false≢true (sym e ∙ y)) | inr y ↦ y ] in
          subst (λ z. before r z ≡ true) (sym q) (elim t [ inl u ↦ subst (λ z. before z c ≡ true) u l | inr u ↦ through r best c h.0 pb pc (h.1 best (inl refl) pb u) l ])

  pub picked : (best : ℕ) (cs : List ℕ) → P best → ((c : ℕ) → In c cs → P c) → Picked best cs (pick before best cs)
  picked best [] pb all = (pb, λ c m pc ne. elim m [ inl q ↦ absurd (ne q) | inr k ↦ absurd k ])
  picked best (c ∷ cs) pb all =
      step best c cs (pick before (cond (before c best) c best) cs) (before c best) refl pb (all c (inl refl))
      (picked (cond (before c best) c best) cs (of_both (before c best)) (λ k m. all k (inr m)))
    where
      of_both : (b : Bool) → P (cond b c best)
      of_both true = all c (inl refl)
      of_both false = pb
