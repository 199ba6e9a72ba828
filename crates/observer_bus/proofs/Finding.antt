-- A list of which one element after the other is looked at.
use Rattle.std.proofs.Common.{◌≡◌, ℕ, ◌+◌, ◌≤◌, ◌<◌, ◌||◌, Bool, true, false, List, Some, None, length, take, drop, sym, ap, ◌∙◌, subst, get_or, take_all, IsTrue}
use Rattle.std.proofs.lemmas.List.{drop_all, get_or_default}
use Rattle.std.specs.List.{list_any}
use Rattle.observer_bus.proofs.Seating.{any_more}
use Rattle.observer_bus.proofs.Turns.{from_here, upto_here}

module _ {S : Type 0} (p : S → Bool) (xs : List S) (i : ℕ) where
  -- all were looked at
  pub none_left : length xs ≤ i → list_any p xs ≡ list_any p (drop i xs) → false ≡ list_any p xs
  none_left le e = sym (e ∙ ap (list_any p) (drop_all i xs le))

  pub none_at_all : length xs ≤ i → list_any p (take i xs) ≡ false → list_any p xs ≡ false
  none_at_all le e = ap (list_any p) (sym (take_all i xs le)) ∙ e

  -- the one at this place
  module _ (s : S) (lt : i < length xs) (here : s ≡ get_or xs i s) where
    pub found_from : p s ≡ true → list_any p xs ≡ list_any p (drop i xs) → true ≡ list_any p xs
    found_from t e = sym (e ∙ ap (list_any p) (from_here xs i s lt here) ∙ ap (λ b. b || list_any p (drop (i + 1) xs)) t)

    pub passed_by : p s ≡ false → list_any p xs ≡ list_any p (drop i xs) → list_any p xs ≡ list_any p (drop (i + 1) xs)
    passed_by f e = e ∙ ap (list_any p) (from_here xs i s lt here) ∙ ap (λ b. b || list_any p (drop (i + 1) xs)) f

    pub none_yet : p s ≡ false → list_any p (take i xs) ≡ false → list_any p (take (i + 1) xs) ≡ false
    none_yet f e = ap (list_any p) (upto_here xs i s lt here) ∙ any_more p (take i xs) s e f

    pub found_here : p s ≡ true → (d : S) → IsTrue (p (get_or xs i d))
    found_here t d = subst (λ x. p x ≡ true) (here ∙ get_or_default xs i s d lt) t

pub some_none : {T : Type 0} {x : T} → Some x ≡ None → ⊥
some_none e = cc
