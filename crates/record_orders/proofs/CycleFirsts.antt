-- The first of each kind, as the list grows at its end. Kinds are told apart by a number.
use Rattle.std.proofs.Common.{◌≡◌, ℕ, Bool, true, false, cond, refl, sym, ap, ◌∙◌, inl, inr, List, [], ◌∷◌, ◌++◌, arith}
use Rattle.std.specs.Prelude.{filter, not, ◌||◌, ◌==◌}
use Rattle.std.specs.List.{list_any}
use Rattle.std.proofs.lemmas.Bool.{cases_Bool}
use Rattle.std.proofs.lemmas.Bool.Decides.{nat_tests}
use Rattle.std.proofs.lemmas.List.{append-nil}
use Rattle.std.proofs.lemmas.List.Elements.{filter-append}
use Rattle.slab_laws.specs.Listed.{distinct}

-- what passes the one test passes the other, so the other loses nothing that the one finds
any_filter : {X : Type 0} (p q : X → Bool) (xs : List X) → ((x : X) → p x ≡ true → q x ≡ true) → list_any p (filter q xs) ≡ list_any p xs
any_filter p q [] h = refl
any_filter {X} p q (x ∷ xs) h = step (p x) (q x) refl refl (h x) (any_filter p q xs h)
  where
    step : (b c : Bool) → p x ≡ b → q x ≡ c → (p x ≡ true → q x ≡ true) → list_any p (filter q xs) ≡ list_any p xs → list_any p (cond c (x ∷ filter q xs) (filter q xs)) ≡ (p x || list_any p xs)
    step b true e d k r = ap (λ t. p x || t) r
    step true false e d k r = let f = k e in cc
    step false false e d k r = rw e r

module _ {X : Type 0} (key : X → ℕ) where
  -- both are of one kind
  abbrev pub alike : X → X → Bool
  alike a b = key a == key b

  turned : (a b : X) → alike a b ≡ alike b a
  turned a b = grind (arith, nat_tests)

  apart : (a x z : X) → alike a x ≡ false → alike a z ≡ true → not (alike x z) ≡ true
  apart a x z e d = grind (arith, nat_tests)

  kept : (a b : Bool) (p : X → Bool) (x : X) → p x ≡ not a → filter p (cond b [] (x ∷ [])) ≡ cond (a || b) [] (x ∷ [])
  kept true true p x e = refl
  kept false true p x e = refl
  kept true false p x e = rw e refl
  kept false false p x e = rw e refl

  pub distinct_more : (xs : List X) (x : X) → distinct alike (xs ++ x ∷ []) ≡ distinct alike xs ++ cond (list_any (alike x) xs) [] (x ∷ [])
  unfolding distinct
  distinct_more [] x = refl
  distinct_more (y ∷ ys) x =
      ap (λ zs. y ∷ filter (λ z. not (alike y z)) zs) (distinct_more ys x)
      ∙ ap (λ zs. y ∷ zs) (filter-append (λ z. not (alike y z)) (distinct alike ys) (cond (list_any (alike x) ys) [] (x ∷ [])))
      ∙ ap (λ zs. y ∷ (filter (λ z. not (alike y z)) (distinct alike ys) ++ zs)) (kept (alike x y) (list_any (alike x) ys) (λ z. not (alike y z)) x (ap not (turned y x)))

  pub any_distinct : (a : X) (xs : List X) → list_any (alike a) (distinct alike xs) ≡ list_any (alike a) xs
  unfolding distinct
  any_distinct a [] = refl
  any_distinct a (x ∷ xs) =
      elim (cases_Bool (alike a x)) [
        | inl e ↦ rw e refl
        | inr e ↦ ap (λ t. alike a x || t) (any_filter (alike a) (λ z. not (alike x z)) (distinct alike xs) (λ z. apart a x z e) ∙ any_distinct a xs)
      ]

  pub added_distinct : (xs : List X) (x : X) → cond (list_any (alike x) (distinct alike xs)) (distinct alike xs) (distinct alike xs ++ x ∷ []) ≡ distinct alike (xs ++ x ∷ [])
  added_distinct xs x = rw (any_distinct x xs) (step (list_any (alike x) xs) ∙ sym (distinct_more xs x))
    where
      step : (b : Bool) → cond b (distinct alike xs) (distinct alike xs ++ x ∷ []) ≡ distinct alike xs ++ cond b [] (x ∷ [])
      step true = sym (append-nil (distinct alike xs))
      step false = refl
