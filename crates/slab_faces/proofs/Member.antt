-- The elements of a list, by recursion, and of the lists that are made of it.
use Rattle.std.proofs.Common.{arith, ◌≡◌, Bool, true, false, cond, refl, sym, ap, subst, ◌∙◌, ◌⊎◌, inl, inr, List, [], ◌∷◌, ◌++◌, map}
use Rattle.std.specs.Prelude.{filter, flat_map, not, ◌||◌}
use Rattle.std.specs.List.{Contains, list_any}
use Rattle.std.proofs.lemmas.Bool.{false≢true, cases_Bool}
use Rattle.std.proofs.lemmas.List.Elements.{Contains-append_left, Contains-append_right, Contains-push}
use Rattle.slab_faces.proofs.Turns.{member_cases}
use Rattle.slab_laws.specs.Listed.{distinct}

abbrev pub Member : {X : Type 0} → List X → X → Type 0
Member [] y = ⊥
Member (x ∷ xs) y = (x ≡ y) ⊎ Member xs y

module _ {X : Type 0} where
  pub member_in : (xs : List X) (y : X) → Member xs y → Contains xs y
  member_in [] y h = absurd h
  member_in (x ∷ xs) y (inl e) = subst (Contains (x ∷ xs)) e (Contains-append_left (x ∷ []) xs x (Contains-push [] x))
  member_in (x ∷ xs) y (inr h) = Contains-append_right (x ∷ []) xs y (member_in xs y h)

  pub in_member : (xs : List X) (y : X) → Contains xs y → Member xs y
  in_member [] y h = none y h
    where
      none : (y : X) → Contains [] y → ⊥
      none y h = absurd (omega (arith, h.1))
  in_member (x ∷ xs) y h = elim (member_cases x xs y h) [ inl e ↦ inl e | inr k ↦ inr (in_member xs y k) ]

  pub append_cases : (xs ys : List X) (z : X) → Member (xs ++ ys) z → Member xs z ⊎ Member ys z
  append_cases [] ys z h = inr h
  append_cases (x ∷ xs) ys z (inl e) = inl (inl e)
  append_cases (x ∷ xs) ys z (inr h) = elim (append_cases xs ys z h) [ inl a ↦ inl (inr a) | inr b ↦ inr b ]

  pub append_left : (xs ys : List X) (z : X) → Member xs z → Member (xs ++ ys) z
  append_left [] ys z h = absurd h
  append_left (x ∷ xs) ys z (inl e) = inl e
  append_left (x ∷ xs) ys z (inr h) = inr (append_left xs ys z h)

  pub append_right : (xs ys : List X) (z : X) → Member ys z → Member (xs ++ ys) z
  append_right [] ys z h = h
  append_right (x ∷ xs) ys z h = inr (append_right xs ys z h)

  kept : (p : X → Bool) (b : Bool) (x : X) (xs ys : List X) (z : X) → p x ≡ b → Member (cond b (x ∷ ys) ys) z → (Member ys z → Member xs z × (p z ≡ true)) → Member (x ∷ xs) z × (p z ≡ true)
  kept p true x xs ys z e (inl a) f = (inl a, subst (λ y. p y ≡ true) a e)
  kept p true x xs ys z e (inr h) f = let r = f h in (inr r.0, r.1)
  kept p false x xs ys z e h f = let r = f h in (inr r.0, r.1)

  pub filter_out : (p : X → Bool) (xs : List X) (z : X) → Member (filter p xs) z → Member xs z × (p z ≡ true)
  filter_out p [] z h = absurd h
  filter_out p (x ∷ xs) z h = kept p (p x) x xs (filter p xs) z refl h (filter_out p xs z)

  keep : (b : Bool) (x : X) (ys : List X) (z : X) → Member ys z → Member (cond b (x ∷ ys) ys) z
  keep true x ys z h = inr h
  keep false x ys z h = h

  pub filter_in : (p : X → Bool) (xs : List X) (z : X) → Member xs z → p z ≡ true → Member (filter p xs) z
  filter_in p [] z h e = absurd h
  filter_in p (x ∷ xs) z (inl a) e = subst (λ b. Member (cond b (x ∷ filter p xs) (filter p xs)) z) (sym (ap p a ∙ e)) (inl a)
  filter_in p (x ∷ xs) z (inr h) e = keep (p x) x (filter p xs) z (filter_in p xs z h e)

  -- ---- a test of some element
  pub none_passes : (p : X → Bool) (xs : List X) → list_any p xs ≡ false → (z : X) → Member xs z → p z ≡ false
  none_passes p [] e z h = absurd h
  none_passes p (x ∷ xs) e z h = step (p x) refl e h (λ e h. none_passes p xs e z h)
    where
      step : (b : Bool) → p x ≡ b → (b || list_any p xs) ≡ false → (x ≡ z) ⊎ Member xs z → (list_any p xs ≡ false → Member xs z → p z ≡ false) → p z ≡ false
      step true q e h f = absurd (false≢true (sym e))
      step false q e (inl a) f = subst (λ y. p y ≡ false) a q
      step false q e (inr h) f = f e h

  pub none_passing : (p : X → Bool) (xs : List X) → ((z : X) → Member xs z → p z ≡ false) → list_any p xs ≡ false
  none_passing p [] f = refl
  none_passing p (x ∷ xs) f = ap (λ b. b || list_any p xs) (f x (inl refl)) ∙ none_passing p xs (λ z h. f z (inr h))

  -- ---- the first of each kind
  pub distinct_out : (same : X → X → Bool) (xs : List X) (z : X) → Member (distinct same xs) z → Member xs z
  unfolding distinct
  distinct_out same [] z h = absurd h
  distinct_out same (x ∷ xs) z (inl e) = inl e
  distinct_out same (x ∷ xs) z (inr h) = inr (distinct_out same xs z (filter_out (λ y. not (same x y)) (distinct same xs) z h).0)

  pub distinct_in : (same : X → X → Bool) (xs : List X) → ((x : X) → Member xs x → same x x ≡ true) → ((x y z : X) → Member xs x → Member xs y → Member xs z → same x y ≡ true → same y z ≡ true → same x z ≡ true) → (z : X) → Member xs z → (y : X) × Member (distinct same xs) y × (same y z ≡ true)
  unfolding distinct
  distinct_in same [] r t z h = absurd h
  distinct_in same (x ∷ xs) r t z (inl e) = (x, inl refl, subst (λ y. same x y ≡ true) e (r x (inl refl)))
  distinct_in same (x ∷ xs) r t z (inr h) =
      let ih = distinct_in same xs (λ x h. r x (inr h)) (λ x y z a b c. t x y z (inr a) (inr b) (inr c)) z h in
      let m = distinct_out same xs ih.0 ih.1 in
      elim (cases_Bool (same x ih.0)) [
        | inl a ↦ (x, inl refl, t x ih.0 z (inl refl) (inr m) (inr h) a ih.2)
        | inr a ↦ (ih.0, inr (filter_in (λ y. not (same x y)) (distinct same xs) ih.0 ih.1 (ap not a)), ih.2)
      ]

module _ {X Y : Type 0} where
  pub map_in : (f : X → Y) (xs : List X) (x : X) → Member xs x → Member (map f xs) (f x)
  map_in f [] x h = absurd h
  map_in f (y ∷ ys) x (inl e) = inl (ap f e)
  map_in f (y ∷ ys) x (inr h) = inr (map_in f ys x h)

  pub map_out : (f : X → Y) (xs : List X) (y : Y) → Member (map f xs) y → (x : X) × Member xs x × (f x ≡ y)
  map_out f [] y h = absurd h
  map_out f (x ∷ xs) y (inl e) = (x, inl refl, e)
  map_out f (x ∷ xs) y (inr h) = let r = map_out f xs y h in (r.0, inr r.1, r.2)

  pub flat_in : (f : X → List Y) (xs : List X) (x : X) (y : Y) → Member xs x → Member (f x) y → Member (flat_map f xs) y
  flat_in f [] x y h k = absurd h
  flat_in f (z ∷ zs) x y (inl e) k = append_left (f z) (flat_map f zs) y (subst (λ w. Member (f w) y) (sym e) k)
  flat_in f (z ∷ zs) x y (inr h) k = append_right (f z) (flat_map f zs) y (flat_in f zs x y h k)

  pub flat_out : (f : X → List Y) (xs : List X) (y : Y) → Member (flat_map f xs) y → (x : X) × Member xs x × Member (f x) y
  flat_out f [] y h = absurd h
  flat_out f (x ∷ xs) y h = elim (append_cases (f x) (flat_map f xs) y h) [ inl a ↦ (x, inl refl, a) | inr b ↦ (let r = flat_out f xs y b in (r.0, inr r.1, r.2)) ]
