-- Where a test passes first, as the list grows at its end.
use Rattle.std.proofs.Common.{◌≡◌, suc, ◌+◌, Bool, true, false, cond, not, refl, List, [], ◌∷◌, ◌++◌, length, length-append, Some, None, arith, inl, inr, nat_lt}
use Rattle.std.specs.Prelude.{◌||◌}
use Rattle.std.specs.List.{list_any, position, position_or_len}
use Rattle.std.proofs.lemmas.Bool.{cases_Bool}
use Rattle.std.proofs.lemmas.Bool.Decides.{nat_tests}
use Rattle.std.proofs.lemmas.List.Folds.{position_or_len_push}
use Rattle.std.proofs.lemmas.List.Sums.{prefix_len-le-length}

module _ {X : Type 0} (p : X → Bool) where
  pub among : (xs : List X) → list_any p xs ≡ nat_lt (position_or_len p xs) (length xs)
  among [] = refl
  among (x ∷ xs) = step (p x) (among xs)
    where
      step : (b : Bool) → list_any p xs ≡ nat_lt (position_or_len p xs) (length xs) → (b || list_any p xs) ≡ nat_lt (cond (not b) (1 + position_or_len p xs) 0) (suc (length xs))
      step true e = grind (arith, nat_tests)
      step false e = grind (arith, nat_tests)

  pub position_more : (xs : List X) (y : X) → position p (xs ++ y ∷ []) ≡ cond (list_any p xs) (position p xs) (cond (p y) (Some (length xs)) None)
  position_more xs y =
      let a = among xs in
      let b = position_or_len_push p xs y in
      let c = length-append xs (y ∷ []) in
      let d = prefix_len-le-length (λ x. not (p x)) xs in
      elim (cases_Bool (p y)) [
        | inl e ↦ grind (arith, nat_tests)
        | inr e ↦ grind (arith, nat_tests)
      ]
