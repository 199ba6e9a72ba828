-- Membership in the lists that the definitions make.
use Rattle.std.proofs.Common.{◌≡◌, List, [], ◌∷◌, ◌++◌, Bool, true, false, cond, not, ◌&&◌, ◌||◌, refl, sym, ap, ap₂, ◌∙◌, subst, inl, inr, ◌⊎◌, ⊎_elim, Ordering, Less, Equal, Greater, ◌≢◌, Option, Some, None, is_some, option_map, ℕ, append_assoc}
use Rattle.std.specs.Cmp.{IsTotalOrder}
use Rattle.std.specs.Prelude.{map, IsSome}
use Rattle.std.specs.List.{AllByRecursion, filter, list_any, flat_map}
use Rattle.std.specs.Ordering.{match_ordering}
use Rattle.integers.proofs.Decisions.{or_out}
use Rattle.plane_graphs.specs.Ascending.{place, ascending, Member, IsAscending}
use Rattle.plane_graphs.proofs.Ascending.{Member-place, Member-ascending, ascending-Member}
use Rattle.exact_plane.specs.Point.{Point}

pub and_in : {a b : Bool} → a ≡ true → b ≡ true → a && b ≡ true
and_in {a} {b} h k = rw (h, k) refl

pub not_out : (a : Bool) → not a ≡ true → a ≡ false
not_out true h = cc
not_out false h = refl

pub not_none : {T : Type 0} (o : Option T) → IsSome o → o ≡ None → ⊥
not_none None p e = cc
not_none (Some k) p e = cc

pub not_in : (a : Bool) → (a ≡ true → ⊥) → not a ≡ true
not_in true h = absurd (h refl)
not_in false h = refl

pub clash : {A : Type 0} {a : Bool} → a ≡ true → a ≡ false → A
clash {A} {a} h k = absurd cc

pub both_ways : (a b : Bool) → (a ≡ true → b ≡ true) → (b ≡ true → a ≡ true) → a ≡ b
both_ways true b f g = sym (f refl)
both_ways false true f g = g refl
both_ways false false f g = refl

pub decide : (a : Bool) → (a ≡ true) ⊎ (a ≡ false)
decide true = inl refl
decide false = inr refl

pub or_left : (a b : Bool) → a ≡ true → a || b ≡ true
or_left true b h = refl
or_left false b h = cc

pub or_right : (a b : Bool) → b ≡ true → a || b ≡ true
or_right true b h = refl
or_right false b h = h

module _ {X : Type 0} where
  pub in_left : (x : X) (xs ys : List X) → Member x xs → Member x (xs ++ ys)
  in_left x [] ys m = absurd m
  in_left x (z ∷ xs) ys (inl e) = inl e
  in_left x (z ∷ xs) ys (inr m) = inr (in_left x xs ys m)

  pub in_right : (x : X) (xs ys : List X) → Member x ys → Member x (xs ++ ys)
  in_right x [] ys m = m
  in_right x (z ∷ xs) ys m = inr (in_right x xs ys m)

  pub in_either : (x : X) (xs ys : List X) → Member x (xs ++ ys) → Member x xs ⊎ Member x ys
  in_either x [] ys m = inr m
  in_either x (z ∷ xs) ys (inl e) = inl (inl e)
  in_either x (z ∷ xs) ys (inr m) = ⊎_elim (λ a. inl (inr a)) (λ b. inr b) (in_either x xs ys m)

  filtered_head : (b : Bool) (x z : X) (zs : List X) → b ≡ true → x ≡ z → Member x (cond b (z ∷ zs) zs)
  filtered_head true x z zs h e = inl e
  filtered_head false x z zs h e = cc

  filtered_tail : (b : Bool) (x z : X) (zs : List X) → Member x zs → Member x (cond b (z ∷ zs) zs)
  filtered_tail true x z zs m = inr m
  filtered_tail false x z zs m = m

  pub in_filter : (p : X → Bool) (x : X) (xs : List X) → Member x xs → p x ≡ true → Member x (filter p xs)
  in_filter p x [] m h = absurd m
  in_filter p x (z ∷ xs) (inl e) h = filtered_head (p z) x z (filter p xs) (ap p (sym e) ∙ h) e
  in_filter p x (z ∷ xs) (inr m) h = filtered_tail (p z) x z (filter p xs) (in_filter p x xs m h)

  filtered_out : (b : Bool) (x z : X) (zs : List X) → Member x (cond b (z ∷ zs) zs) → ((x ≡ z) × (b ≡ true)) ⊎ Member x zs
  filtered_out true x z zs (inl e) = inl (e, refl)
  filtered_out true x z zs (inr m) = inr m
  filtered_out false x z zs m = inr m

  pub of_filter : (p : X → Bool) (x : X) (xs : List X) → Member x (filter p xs) → Member x xs × (p x ≡ true)
  of_filter p x [] m = absurd m
  of_filter p x (z ∷ xs) m = ⊎_elim (λ h. (inl h.0, ap p h.0 ∙ h.1)) (λ n. let r = of_filter p x xs n in (inr r.0, r.1)) (filtered_out (p z) x z (filter p xs) m)

  -- two tests that agree on what a list has keep the same of it
  pub filter_same : (p q : X → Bool) (xs : List X) → ((x : X) → Member x xs → p x ≡ q x) → filter p xs ≡ filter q xs
  filter_same p q [] h = refl
  filter_same p q (x ∷ xs) h = ap₂ (λ b ys. cond b (x ∷ ys) ys) (h x (inl refl)) (filter_same p q xs (λ m n. h m (inr n)))

  pub any_in : (p : X → Bool) (x : X) (xs : List X) → Member x xs → p x ≡ true → list_any p xs ≡ true
  any_in p x [] m h = absurd m
  any_in p x (z ∷ xs) (inl e) h = or_left (p z) (list_any p xs) (ap p (sym e) ∙ h)
  any_in p x (z ∷ xs) (inr m) h = or_right (p z) (list_any p xs) (any_in p x xs m h)

  pub any_out : (p : X → Bool) (xs : List X) → list_any p xs ≡ true → (x : X) × Member x xs × (p x ≡ true)
  any_out p [] h = cc
  any_out p (z ∷ xs) h = ⊎_elim (λ e. (z, inl refl, e)) (λ k. let r = any_out p xs k in (r.0, inr r.1, r.2)) (or_out (p z) (list_any p xs) h)

  pub any_none : (p : X → Bool) (x : X) (xs : List X) → list_any p xs ≡ false → Member x xs → p x ≡ true → ⊥
  any_none p x xs h m e = clash (any_in p x xs m e) h

  pub if_one : (b : Bool) (y z : X) → b ≡ true → y ≡ z → Member y (cond b (z ∷ []) [])
  if_one true y z h e = inl e
  if_one false y z h e = cc

  pub one_if : (b : Bool) (y z : X) → Member y (cond b (z ∷ []) []) → (b ≡ true) × (y ≡ z)
  one_if true y z (inl e) = (refl, e)
  one_if true y z (inr m) = absurd m
  one_if false y z m = absurd m

  pub if_true : (b : Bool) (y : X) (xs ys : List X) → b ≡ true → Member y xs → Member y (cond b xs ys)
  if_true true y xs ys h m = m
  if_true false y xs ys h m = cc

  pub if_false : (b : Bool) (y : X) (xs ys : List X) → b ≡ false → Member y ys → Member y (cond b xs ys)
  if_false true y xs ys h m = cc
  if_false false y xs ys h m = m

  pub if_out : (b : Bool) (y : X) (xs ys : List X) → Member y (cond b xs ys) → ((b ≡ true) × Member y xs) ⊎ ((b ≡ false) × Member y ys)
  if_out true y xs ys m = inl (refl, m)
  if_out false y xs ys m = inr (refl, m)

module _ {X Y : Type 0} where
  pub in_flat_map : (f : X → List Y) (x : X) (y : Y) (xs : List X) → Member x xs → Member y (f x) → Member y (flat_map f xs)
  in_flat_map f x y [] m n = absurd m
  in_flat_map f x y (z ∷ xs) (inl e) n = in_left y (f z) (flat_map f xs) (subst (λ w. Member y (f w)) e n)
  in_flat_map f x y (z ∷ xs) (inr m) n = in_right y (f z) (flat_map f xs) (in_flat_map f x y xs m n)

  pub of_flat_map : (f : X → List Y) (y : Y) (xs : List X) → Member y (flat_map f xs) → (x : X) × Member x xs × Member y (f x)
  of_flat_map f y [] m = absurd m
  of_flat_map f y (z ∷ xs) m = ⊎_elim (λ n. (z, inl refl, n)) (λ n. let r = of_flat_map f y xs n in (r.0, inr r.1, r.2)) (in_either y (f z) (flat_map f xs) m)

-- ---- membership in `map`
module _ {X Y : Type 0} where
  pub in_map : (f : X → Y) (x : X) (xs : List X) → Member x xs → Member (f x) (map f xs)
  in_map f x [] m = m
  in_map f x (z ∷ xs) (inl e) = inl (ap f e)
  in_map f x (z ∷ xs) (inr m) = inr (in_map f x xs m)

  pub of_map : (f : X → Y) (y : Y) (xs : List X) → Member y (map f xs) → (x : X) × Member x xs × (y ≡ f x)
  of_map f y [] m = absurd m
  of_map f y (z ∷ xs) (inl e) = (z, inl refl, e)
  of_map f y (z ∷ xs) (inr m) = let r = of_map f y xs m in (r.0, inr r.1, r.2)

-- ---- ascending lists
module _ {X : Type 0} (cmp : X → X → Ordering) where
  All-filter : (P : X → Type 0) (p : X → Bool) (xs : List X) → AllByRecursion P xs → AllByRecursion P (filter p xs)
  All-filter P p [] a = tt
  All-filter P p (x ∷ xs) a = step (p x) (filter p xs) (All-filter P p xs a.1) a.0
    where
      step : (b : Bool) (ys : List X) → AllByRecursion P ys → P x → AllByRecursion P (cond b (x ∷ ys) ys)
      step true ys h k = (k, h)
      step false ys h k = h

  pub IsAscending-filter : (p : X → Bool) (xs : List X) → IsAscending cmp xs → IsAscending cmp (filter p xs)
  IsAscending-filter p [] a = tt
  IsAscending-filter p (x ∷ xs) a = step (p x) (filter p xs) (All-filter (λ y. cmp x y ≡ Less) p xs a.0) (IsAscending-filter p xs a.1)
    where
      step : (b : Bool) (ys : List X) → AllByRecursion (λ y. cmp x y ≡ Less) ys → IsAscending cmp ys → IsAscending cmp (cond b (x ∷ ys) ys)
      step true ys h k = (h, k)
      step false ys h k = k

  all_first : (P : X → Type 0) (xs ys : List X) → AllByRecursion P (xs ++ ys) → AllByRecursion P xs
  all_first P [] ys a = tt
  all_first P (x ∷ xs) ys a = (a.0, all_first P xs ys a.1)

  -- parts of an ascending list
  pub ascends_left : (xs ys : List X) → IsAscending cmp (xs ++ ys) → IsAscending cmp xs
  ascends_left [] ys a = tt
  ascends_left (x ∷ xs) ys a = (all_first (λ y. cmp x y ≡ Less) xs ys a.0, ascends_left xs ys a.1)

  pub ascends_right : (xs ys : List X) → IsAscending cmp (xs ++ ys) → IsAscending cmp ys
  ascends_right [] ys a = a
  ascends_right (x ∷ xs) ys a = ascends_right xs ys a.1

module _ {X : Type 0} (cmp : X → X → Ordering) (o : IsTotalOrder cmp) (exact : (x y : X) → cmp x y ≡ Equal → x ≡ y) where
  pub of_ascending : (x : X) (xs : List X) → Member x (ascending cmp xs) → Member x xs
  of_ascending x xs m = Member-ascending cmp o x xs m

  pub in_ascending : (x : X) (xs : List X) → Member x xs → Member x (ascending cmp xs)
  in_ascending x xs m = ascending-Member cmp o x xs (λ y z n k. exact y z) m

  pub of_place : (x y : X) (ys : List X) → Member x (place cmp y ys) → (x ≡ y) ⊎ Member x ys
  of_place x y ys m = Member-place cmp o x y ys m

  placed : (x y : X) (t : Ordering) (z : X) (zs rest : List X) → cmp y z ≡ t → ((x ≡ y) ⊎ Member x zs → Member x rest) → (x ≡ y) ⊎ Member x (z ∷ zs) → Member x (match_ordering t (y ∷ z ∷ zs) (z ∷ zs) (z ∷ rest))
  placed x y Less z zs rest e f m = m
  placed x y Equal z zs rest e f (inl i) = inl (i ∙ exact y z e)
  placed x y Equal z zs rest e f (inr m) = m
  placed x y Greater z zs rest e f (inl i) = inr (f (inl i))
  placed x y Greater z zs rest e f (inr (inl i)) = inl i
  placed x y Greater z zs rest e f (inr (inr m)) = inr (f (inr m))

  pub in_place : (x y : X) (ys : List X) → (x ≡ y) ⊎ Member x ys → Member x (place cmp y ys)
  unfolding place
  in_place x y [] m = m
  in_place x y (z ∷ ys) m = placed x y (cmp y z) z ys (place cmp y ys) refl (in_place x y ys) m

pub map_map : {X Y Z : Type 0} (f : X → Y) (g : Y → Z) (xs : List X) → map g (map f xs) ≡ map (λ x. g (f x)) xs
map_map f g [] = refl
map_map f g (x ∷ xs) = ap (λ ys. g (f x) ∷ ys) (map_map f g xs)

-- a list that isn't empty has an element
pub some_of : {X : Type 0} (xs : List X) → xs ≢ [] → (x : X) × Member x xs
some_of [] f = absurd (f refl)
some_of (x ∷ xs) f = (x, inl refl)

pub filter_of_map : {X Y : Type 0} (f : X → Y) (p : Y → Bool) (xs : List X) → filter p (map f xs) ≡ map f (filter (λ x. p (f x)) xs)
filter_of_map f p [] = refl
filter_of_map {X} {Y} f p (x ∷ xs) = step (p (f x)) (filter_of_map f p xs)
  where
    step : (b : Bool) → filter p (map f xs) ≡ map f (filter (λ x. p (f x)) xs) → cond b (f x ∷ filter p (map f xs)) (filter p (map f xs)) ≡ map f (cond b (x ∷ filter (λ x. p (f x)) xs) (filter (λ x. p (f x)) xs))
    step true e = ap (λ ys. f x ∷ ys) e
    step false e = e

-- two maps that agree on the elements
pub map_same : {X Y : Type 0} (f g : X → Y) (xs : List X) → ((x : X) → Member x xs → f x ≡ g x) → map f xs ≡ map g xs
map_same f g [] h = refl
map_same f g (x ∷ xs) h = let a = h x (inl refl) in let b = map_same f g xs (λ y m. h y (inr m)) in λ i. a i ∷ b i

pub some_mapped : {X Y : Type 0} (f : X → Y) (o : Option X) → is_some (option_map f o) ≡ is_some o
some_mapped f None = refl
some_mapped f (Some x) = refl

-- two puts are one
pub then_appended : (x y z a b : List ℕ) → y ≡ x ++ a → z ≡ y ++ b → z ≡ x ++ (a ++ b)
then_appended x y z a b e f = f ∙ ap (λ (s : List ℕ). s ++ b) e ∙ append_assoc x a b

pub none_is_empty : (xs : List Point) → ((x : Point) → Member x xs → ⊥) → xs ≡ []
none_is_empty [] f = refl
none_is_empty (x ∷ xs) f = absurd (f x (inl refl))
