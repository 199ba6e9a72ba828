-- What a loop over a list has read.
use Rattle.std.proofs.Common.{◌≡◌, ℕ, ◌+◌, ◌<◌, ◌≤◌, List, [], ◌∷◌, ◌++◌, map, length, take, get_or, sym, ap, ◌∙◌, subst}
use Rattle.std.specs.List.{flat_map}
use Rattle.std.proofs.lemmas.List.{take_more, take_all, flat_map_more, get_or-map, length-map, map_push}
use Rattle.plane_graphs.specs.Ascending.{Member}
use Rattle.plane_graphs.proofs.Ascending.{to_member}

module _ {X : Type 0} where
  pub read_in : (xs : List X) (i : ℕ) (x : X) → i < length xs → x ≡ get_or xs i x → Member x xs
  read_in xs i x h e = to_member xs x (i, h, sym e)

  pub take_next : (xs : List X) (i : ℕ) (x : X) → i < length xs → x ≡ get_or xs i x → take (i + 1) xs ≡ take i xs ++ x ∷ []
  take_next xs i x h e = take_more xs i x h ∙ ap (λ y. take i xs ++ y ∷ []) (sym e)

module _ {X Y : Type 0} (f : X → Y) where
  -- the same at the images
  pub read_map : (xs : List X) (i : ℕ) (x : X) → i < length xs → x ≡ get_or xs i x → f x ≡ get_or (map f xs) i (f x)
  read_map xs i x h e = ap f e ∙ sym (get_or-map f xs i x (f x) h)

  pub below_map : (xs : List X) (i : ℕ) → i < length xs → i < length (map f xs)
  below_map xs i h = subst (λ n. i < n) (sym (length-map xs f)) h

  pub past_map : (xs : List X) (i : ℕ) → length xs ≤ i → length (map f xs) ≤ i
  past_map xs i h = subst (λ n. n ≤ i) (sym (length-map xs f)) h

module _ {X Y : Type 0} (f : X → List Y) where
  -- one more element, and all of them
  pub gathered : (xs : List X) (i : ℕ) (x : X) (base now new : List Y) → i < length xs → x ≡ get_or xs i x → now ≡ base ++ flat_map f (take i xs) → new ≡ now ++ f x → new ≡ base ++ flat_map f (take (i + 1) xs)
  gathered xs i x base now new h e n m = m ∙ ap (λ zs. zs ++ f x) n ∙ flat_map_more f base (take i xs) x ∙ ap (λ zs. base ++ flat_map f zs) (sym (take_next xs i x h e))

  pub all_gathered : (xs : List X) (i : ℕ) (base now : List Y) → length xs ≤ i → now ≡ base ++ flat_map f (take i xs) → now ≡ base ++ flat_map f xs
  all_gathered xs i base now h n = n ∙ ap (λ zs. base ++ flat_map f zs) (take_all i xs h)

-- the elements' images, one by one
module _ {X Y : Type 0} (f : X → Y) where
  pub mapped : (xs : List X) (i : ℕ) (x : X) (now new : List Y) → i < length xs → x ≡ get_or xs i x → now ≡ map f (take i xs) → new ≡ now ++ f x ∷ [] → new ≡ map f (take (i + 1) xs)
  mapped xs i x now new h e n m = m ∙ ap (λ zs. zs ++ f x ∷ []) n ∙ sym (ap (map f) (take_next xs i x h e) ∙ map_push f (take i xs) x)

  pub all_mapped : (xs : List X) (i : ℕ) (now : List Y) → length xs ≤ i → now ≡ map f (take i xs) → now ≡ map f xs
  all_mapped xs i now h n = n ∙ ap (map f) (take_all i xs h)
