-- What a search in an ascending list says.
use Rattle.std.proofs.Common.{◌≡◌, ℕ, zero, suc, ◌<◌, ◌≤◌, List, [], ◌∷◌, length, get_or, Err, Contains, Ordering, Less, Equal, Greater, refl, sym, ap, ◌∙◌, arith, inl, inr}
use Rattle.std.specs.List.{AllByRecursion}
use Rattle.std.specs.List.Sorted.{IsNonDecreasingBy, IsBinarySearchResult}
use Rattle.std.specs.Ordering.{ordering_index}
use Rattle.std.specs.Cmp.{IsTotalOrder, alike_right}
use Rattle.std.proofs.lemmas.Cmp.{tied_itself}
use Rattle.std.proofs.lemmas.Bool.{cases_lt}
use Rattle.plane_graphs.specs.Ascending.{IsAscending}

module _ {X : Type 0} (cmp : X → X → Ordering) (o : IsTotalOrder cmp) where
  below_by : (p q x : X) (r : Ordering) → cmp q x ≡ r → cmp p q ≡ Less → ordering_index (cmp p x) ≤ ordering_index r
  below_by p q x Less e h = rw (o.trans p q x h e) (omega arith)
  below_by p q x Equal e h = rw (sym (alike_right o q x p e) ∙ h) (omega arith)
  below_by p q x Greater e h = at (cmp p x)
    where
      at : (s : Ordering) → ordering_index s ≤ 2
      at Less = omega arith
      at Equal = omega arith
      at Greater = omega arith

  pub at_each : (P : X → Type 0) (xs : List X) (j : ℕ) (d : X) → AllByRecursion P xs → j < length xs → P (get_or xs j d)
  at_each P [] j d h lt = absurd (omega arith)
  at_each P (x ∷ xs) zero d h lt = h.0
  at_each P (x ∷ xs) (suc j) d h lt = at_each P xs j d h.1 (omega arith)

  rises : (x : X) (ys : List X) → IsAscending cmp ys → IsNonDecreasingBy (λ y. ordering_index (cmp y x)) ys
  rises x [] h i j d le lt = absurd (omega arith)
  rises x (y ∷ ys) h zero zero d le lt = omega arith
  rises x (y ∷ ys) h zero (suc j) d le lt = below_by y (get_or ys j d) x (cmp (get_or ys j d) x) refl (at_each (λ z. cmp y z ≡ Less) ys j d h.0 (omega arith))
  rises x (y ∷ ys) h (suc i) zero d le lt = absurd (omega arith)
  rises x (y ∷ ys) h (suc i) (suc j) d le lt = rises x ys h.1 i j d (omega arith) (omega arith)

  -- where a search finds nothing the element isn't there
  pub absent : (x : X) (ys : List X) (i : ℕ) → IsAscending cmp ys → IsBinarySearchResult (λ y. cmp y x) ys (Err i) → Contains ys x → ⊥
  absent x ys i h s (k, lt, e) =
      let t = s (rises x ys h) in
      let tied : cmp (get_or ys k x) x ≡ Equal = ap (λ y. cmp y x) e ∙ tied_itself o x in
      elim (cases_lt k i) [
        | inl below ↦ let less : cmp (get_or ys k x) x ≡ Less = t.0 k x (omega arith) below in absurd cc
        | inr above ↦ let greater : cmp (get_or ys k x) x ≡ Greater = t.1 k x above lt in absurd cc
      ]
