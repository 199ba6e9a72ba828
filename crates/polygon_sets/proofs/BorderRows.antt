-- The border, one dart more.
use Rattle.std.proofs.Common.{◌≡◌, ℕ, ◌+◌, ◌<◌, ◌≤◌, Bool, true, false, cond, sym, ap, ◌∙◌, List, [], ◌∷◌, ◌++◌, map, take, length, get_or}
use Rattle.std.specs.List.{filter}
use Rattle.std.proofs.lemmas.List.{take_more, take_all, map-append, append-nil}
use Rattle.std.proofs.lemmas.List.Elements.{filter-append}

module _ {X Y : Type 0} (p : X → Bool) (f : X → Y) (xs : List X) where
  abbrev kept : ℕ → List Y
  kept i = map f (filter p (take i xs))

  more : (i : ℕ) (d : X) → i < length xs → kept (i + 1) ≡ kept i ++ map f (filter p (get_or xs i d ∷ []))
  more i d l = ap (λ ys. map f (filter p ys)) (take_more xs i d l) ∙ ap (map f) (filter-append p (take i xs) (get_or xs i d ∷ [])) ∙ map-append f (filter p (take i xs)) (filter p (get_or xs i d ∷ []))

  pub one_kept : (i : ℕ) (d : X) (y : Y) (old new : List Y) → i < length xs → p (get_or xs i d) ≡ true → y ≡ f (get_or xs i d) → new ≡ old ++ y ∷ [] → old ≡ map f (filter p (take i xs)) → new ≡ map f (filter p (take (i + 1) xs))
  one_kept i d y old new l t e grown h = grown ∙ (λ k. h k ++ e k ∷ []) ∙ sym (ap (λ b. kept i ++ map f (cond b (get_or xs i d ∷ []) [])) t) ∙ sym (more i d l)

  pub none_kept : (i : ℕ) (d : X) (old new : List Y) → i < length xs → p (get_or xs i d) ≡ false → new ≡ old → old ≡ map f (filter p (take i xs)) → new ≡ map f (filter p (take (i + 1) xs))
  none_kept i d old new l t same h = same ∙ h ∙ sym (append-nil (kept i)) ∙ sym (ap (λ b. kept i ++ map f (cond b (get_or xs i d ∷ []) [])) t) ∙ sym (more i d l)

  pub all_kept : (i : ℕ) (found : List Y) → length xs ≤ i → found ≡ map f (filter p (take i xs)) → found ≡ map f (filter p xs)
  all_kept i found l h = h ∙ ap (λ ys. map f (filter p ys)) (take_all i xs l)
