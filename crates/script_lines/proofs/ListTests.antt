-- Tests of the elements of a list, as facts.
use Rattle.std.proofs.Common.{◌≡◌, suc, Bool, true, false, cond, List, [], ◌∷◌, Option, Some, None, refl, ap, subst, ◌∙◌, arith}
use Rattle.std.specs.Prelude.{find, All, Any, ◌&&◌, ◌||◌}
use Rattle.std.specs.List.{list_any, list_all}
use Rattle.std.proofs.Math.Bool.{or-true}
use Rattle.std.proofs.lemmas.List.Elements.{All-nil, All-cons, All-head, All-tail}
use Rattle.std.proofs.lemmas.List.Folds.{list_all_at}

module _ {X : Type 0} (p : X → Bool) where
  Any-here : (x : X) (xs : List X) → p x ≡ false → Any (λ y. p y ≡ false) (x ∷ xs)
  Any-here x xs e = (0, x, omega arith, refl, e)

  Any-later : (x : X) (xs : List X) → Any (λ y. p y ≡ false) xs → Any (λ y. p y ≡ false) (x ∷ xs)
  Any-later x xs h = (suc h.0, h.1, omega (arith, h.2), h.3, h.4)

  none_by : (here rest : Bool) (x : X) (xs : List X) → p x ≡ here → (here || rest) ≡ false → (rest ≡ false → All (λ y. p y ≡ false) xs) → All (λ y. p y ≡ false) (x ∷ xs)
  none_by true rest x xs at e f = absurd cc
  none_by false rest x xs at e f = All-cons (λ y. p y ≡ false) x xs at (f e)

  -- no element passes
  pub none-from_list_any : (xs : List X) → list_any p xs ≡ false → All (λ y. p y ≡ false) xs
  none-from_list_any [] e = All-nil (λ y. p y ≡ false)
  none-from_list_any (x ∷ xs) e = none_by (p x) (list_any p xs) x xs refl e (none-from_list_any xs)

  fails_by : (here rest : Bool) (x : X) (xs : List X) → p x ≡ here → (here && rest) ≡ false → (rest ≡ false → Any (λ y. p y ≡ false) xs) → Any (λ y. p y ≡ false) (x ∷ xs)
  fails_by true rest x xs at e f = Any-later x xs (f e)
  fails_by false rest x xs at e f = Any-here x xs at

  -- an element doesn't
  pub Any-from_list_all : (xs : List X) → list_all p xs ≡ false → Any (λ y. p y ≡ false) xs
  Any-from_list_all [] e = absurd cc
  Any-from_list_all (x ∷ xs) e = fails_by (p x) (list_all p xs) x xs refl e (Any-from_list_all xs)

  pub list_all-from_Any : (xs : List X) → Any (λ y. p y ≡ false) xs → list_all p xs ≡ false
  list_all-from_Any xs h = list_all_at p xs h.0 h.1 h.2 (ap p h.3 ∙ h.4)

  -- what `find` finds passes
  found_by : (here : Bool) (x y : X) (later : Option X) → p x ≡ here → cond here (Some x) later ≡ Some y → (later ≡ Some y → p y ≡ true) → p y ≡ true
  found_by true x y later at e f = let same : x ≡ y = cc in subst (λ (z : X). p z ≡ true) same at
  found_by false x y later at e f = f e

  pub find-passes : (xs : List X) (y : X) → find p xs ≡ Some y → p y ≡ true
  find-passes [] y e = absurd cc
  find-passes (x ∷ xs) y e = found_by (p x) x y (find p xs) refl e (find-passes xs y)

  -- where it finds nothing, none does
  unfound_by : (here : Bool) (x : X) (xs : List X) → p x ≡ here → cond here (Some x) (find p xs) ≡ None → (find p xs ≡ None → All (λ y. p y ≡ false) xs) → All (λ y. p y ≡ false) (x ∷ xs)
  unfound_by true x xs at e f = absurd cc
  unfound_by false x xs at e f = All-cons (λ y. p y ≡ false) x xs at (f e)

  pub none-from_find : (xs : List X) → find p xs ≡ None → All (λ y. p y ≡ false) xs
  none-from_find [] e = All-nil (λ y. p y ≡ false)
  none-from_find (x ∷ xs) e = unfound_by (p x) x xs refl e (none-from_find xs)

  pub find-from_none : (xs : List X) → All (λ y. p y ≡ false) xs → find p xs ≡ None
  find-from_none [] h = refl
  find-from_none (x ∷ xs) h = rw (All-head (λ y. p y ≡ false) x xs h) (find-from_none xs (All-tail (λ y. p y ≡ false) x xs h))

  -- an element that is found passes a weaker test too
  any_by : (q : X → Bool) (here : Bool) (x y : X) (xs : List X) → ((z : X) → p z ≡ true → q z ≡ true) → p x ≡ here → cond here (Some x) (find p xs) ≡ Some y
      → (find p xs ≡ Some y → list_any q xs ≡ true) → (q x || list_any q xs) ≡ true
  any_by q true x y xs f at e g = rw (f x at) refl
  any_by q false x y xs f at e g = rw (g e) (or-true (q x))

  pub list_any-from_find : (q : X → Bool) (xs : List X) (y : X) → ((z : X) → p z ≡ true → q z ≡ true) → find p xs ≡ Some y → list_any q xs ≡ true
  list_any-from_find q [] y f e = absurd cc
  list_any-from_find q (x ∷ xs) y f e = any_by q (p x) x y xs f refl e (list_any-from_find q xs y f)
