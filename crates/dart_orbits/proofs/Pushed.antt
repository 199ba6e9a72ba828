-- A list that is made element by element.
use Rattle.std.proofs.Common.{◌≡◌, ℕ, ◌+◌, ◌<◌, ◌≤◌, List, [], ◌∷◌, ◌++◌, map, length, get_or, take, sym, ◌∙◌, arith}
use Rattle.std.proofs.lemmas.List.{get_or-map, take_more, take_all, length-map}

module _ {X Y : Type 0} (f : X → Y) where
  pub pushed : (xs : List X) (i : ℕ) (d : X) (y : Y) (us vs : List Y) → i < length xs → y ≡ f (get_or xs i d) → us ≡ take i (map f xs) → vs ≡ us ++ (y ∷ []) → vs ≡ take (i + 1) (map f xs)
  pushed xs i d y us vs l e a b =
      let n : i < length (map f xs) = (let k = length-map xs f in omega arith) in
      b ∙ (λ j. a j ++ ((e ∙ sym (get_or-map f xs i d y l)) j ∷ [])) ∙ sym (take_more (map f xs) i y n)

  pub all_pushed : (xs : List X) (i : ℕ) (us : List Y) → length xs ≤ i → us ≡ take i (map f xs) → us ≡ map f xs
  all_pushed xs i us l e = e ∙ take_all i (map f xs) (let k = length-map xs f in omega arith)
