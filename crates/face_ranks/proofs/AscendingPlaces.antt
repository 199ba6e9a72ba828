-- Places in lists, and lists of which no two elements are alike.
use Rattle.std.proofs.Common.{◌≡◌, ℕ, ◌+◌, Bool, true, false, cond, refl, ap, ◌∙◌, inl, inr, List, [], ◌∷◌, map}
use Rattle.std.specs.Prelude.{not, filter}
use Rattle.std.specs.List.{position_or_len}
use Rattle.slab_laws.specs.Listed.{distinct}
use Rattle.slab_faces.proofs.Member.{Member as In}
use Rattle.sound_views.proofs.ListedPlaces.{Rising}

module _ {X : Type 0} where
  pub place_here : (p : X → Bool) (x : X) (xs : List X) → p x ≡ true → position_or_len p (x ∷ xs) ≡ 0
  place_here p x xs e = rw e refl

  pub place_later : (p : X → Bool) (x : X) (xs : List X) → p x ≡ false → position_or_len p (x ∷ xs) ≡ 1 + position_or_len p xs
  place_later p x xs e = rw e refl

  -- what no two are alike by keeps all
  pub distinct_all : (same : X → X → Bool) (xs : List X) → Rising (λ x y. same x y ≡ false) xs → distinct same xs ≡ xs
  unfolding distinct
  distinct_all same [] a = refl
  distinct_all same (x ∷ xs) a = ap (λ (ys : List X). x ∷ ys) (ap (filter (λ y. not (same x y))) (distinct_all same xs a.1) ∙ kept xs a.0)
    where
      kept : (ys : List X) → ((y : X) → In ys y → same x y ≡ false) → filter (λ y. not (same x y)) ys ≡ ys
      kept [] h = refl
      kept (y ∷ ys) h = rw (h y (inl refl)) (ap (λ (zs : List X). y ∷ zs) (kept ys (λ z m. h z (inr m))))

module _ {X Y : Type 0} where
  pub place_of_map : (h : X → Y) (p : Y → Bool) (xs : List X) → position_or_len p (map h xs) ≡ position_or_len (λ x. p (h x)) xs
  place_of_map h p [] = refl
  place_of_map h p (x ∷ xs) = ap (λ (n : ℕ). cond (not (p (h x))) (1 + n) 0) (place_of_map h p xs)

  pub map_filter_map : {Z : Type 0} (h : X → Y) (p : Y → Bool) (g : Y → Z) (xs : List X) → map g (filter p (map h xs)) ≡ map (λ x. g (h x)) (filter (λ x. p (h x)) xs)
  map_filter_map h p g [] = refl
  map_filter_map {Z} h p g (x ∷ xs) = step (p (h x)) (map_filter_map h p g xs)
    where
      step : (b : Bool) → map g (filter p (map h xs)) ≡ map (λ x. g (h x)) (filter (λ x. p (h x)) xs)
          → map g (cond b (h x ∷ filter p (map h xs)) (filter p (map h xs))) ≡ map (λ x. g (h x)) (cond b (x ∷ filter (λ x. p (h x)) xs) (filter (λ x. p (h x)) xs))
      step true r = ap (λ (zs : List Z). g (h x) ∷ zs) r
      step false r = r
