-- The first of each kind in two lists that stand one after the other.
use Rattle.std.proofs.Common.{◌≡◌, Bool, true, false, cond, refl, sym, ap, ◌∙◌, inl, inr, List, [], ◌∷◌, ◌++◌}
use Rattle.std.specs.Prelude.{not, ◌&&◌, ◌||◌, filter}
use Rattle.std.specs.List.{list_any}
use Rattle.std.proofs.lemmas.List.{append-nil}
use Rattle.std.proofs.lemmas.List.Elements.{filter-append}
use Rattle.plane_graphs.specs.Ascending.{Member}
use Rattle.plane_graphs.proofs.Lists.{of_filter}
use Rattle.slab_laws.specs.Listed.{distinct}

module _ {X : Type 0} where
  -- ---- what a filter keeps
  pub all_kept : (p : X → Bool) (xs : List X) → ((x : X) → p x ≡ true) → filter p xs ≡ xs
  all_kept p [] h = refl
  all_kept p (x ∷ xs) h = rw (h x) (ap (λ ys. x ∷ ys) (all_kept p xs h))

  none_kept : (p : X → Bool) (xs : List X) → ((x : X) → Member x xs → p x ≡ false) → filter p xs ≡ []
  none_kept p [] h = refl
  none_kept p (x ∷ xs) h = rw (h x (inl refl)) (none_kept p xs (λ y m. h y (inr m)))

  -- a filter after a filter
  pub twice : (p q r : X → Bool) (xs : List X) → ((x : X) → r x ≡ (q x && p x)) → filter p (filter q xs) ≡ filter r xs
  twice p q r [] h = refl
  twice p q r (x ∷ xs) h = step (q x) (h x) (twice p q r xs h)
    where
      step : (b : Bool) → r x ≡ (b && p x) → filter p (filter q xs) ≡ filter r xs → filter p (cond b (x ∷ filter q xs) (filter q xs)) ≡ cond (r x) (x ∷ filter r xs) (filter r xs)
      step true e f = rw e (ap (λ ys. cond (p x) (x ∷ ys) ys) f)
      step false e f = rw e f

  -- ---- the first of each kind
  module _ (same : X → X → Bool) where
    pub of_distinct : (x : X) (xs : List X) → Member x (distinct same xs) → Member x xs
    unfolding distinct
    of_distinct x [] m = absurd m
    of_distinct x (y ∷ ys) (inl e) = inl e
    of_distinct x (y ∷ ys) (inr m) = inr (of_distinct x ys (of_filter (λ z. not (same y z)) x (distinct same ys) m).0)

    -- nothing in the list is same as the element
    abbrev pub is_new : List X → X → Bool
    is_new xs y = not (list_any (λ x. same x y) xs)

    either : (a b : Bool) → not (a || b) ≡ (not b && not a)
    either true true = refl
    either true false = refl
    either false true = refl
    either false false = refl

    pub distinct-append : (xs ys : List X) → distinct same (xs ++ ys) ≡ distinct same xs ++ filter (is_new xs) (distinct same ys)
    unfolding distinct
    distinct-append [] ys = sym (all_kept (is_new []) (distinct same ys) (λ y. refl))
    distinct-append (x ∷ xs) ys =
        ap (λ zs. x ∷ filter (λ y. not (same x y)) zs) (distinct-append xs ys)
        ∙ ap (λ zs. x ∷ zs) (filter-append (λ y. not (same x y)) (distinct same xs) (filter (is_new xs) (distinct same ys)))
        ∙ ap (λ zs. x ∷ (filter (λ y. not (same x y)) (distinct same xs) ++ zs)) (twice (λ y. not (same x y)) (is_new xs) (is_new (x ∷ xs)) (distinct same ys) (λ y. either (same x y) (list_any (λ z. same z y) xs)))

    -- what is known adds nothing
    pub distinct-known : (xs ys : List X) → ((y : X) → Member y ys → list_any (λ x. same x y) xs ≡ true) → distinct same (xs ++ ys) ≡ distinct same xs
    distinct-known xs ys h =
        distinct-append xs ys
        ∙ ap (λ zs. distinct same xs ++ zs) (none_kept (is_new xs) (distinct same ys) (λ y m. ap not (h y (of_distinct y ys m))))
        ∙ append-nil (distinct same xs)
