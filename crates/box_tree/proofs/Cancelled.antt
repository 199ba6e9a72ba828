-- What two lists have that have an element each beside the same others.
use Rattle.std.proofs.Common.{◌≡◌, ℕ, suc, ◌+◌, ◌≤◌, Bool, true, false, cond, List, [], ◌∷◌, refl, sym, ap, subst, ◌∙◌, arith}
use Rattle.std.specs.Bool.{Decides}
use Rattle.std.specs.List.{sum_by}
use Rattle.std.specs.List.Sorted.{IsPermutation}
use Rattle.std.proofs.lemmas.List.Sums.{sum_by-cons}
use Rattle.std.proofs.lemmas.List.Sorted.{sum_by-IsPermutation, IsPermutation-append_comm, IsPermutation-append_left, IsPermutation-cons, IsPermutation-refl, IsPermutation-sym, IsPermutation-trans}
use Rattle.box_tree.specs.declared.entry.Entry.{Entry}
use Rattle.box_tree.specs.Entries.{is_same}
use Rattle.box_tree.proofs.Same.{same_entry}

abbrev unit_if : Bool → ℕ
unit_if b = cond {A = ℕ} b 1 0

-- how many times an element stands in a list
module _ {X : Type 0} (same : X → X → Bool) (decides : (a b : X) → Decides (same a b) (a ≡ b)) where
  abbrev tally : X → List X → ℕ
  tally x xs = sum_by (λ y. unit_if (same x y)) xs

  tally_cons : (z x : X) (xs : List X) → tally z (x ∷ xs) ≡ unit_if (same z x) + tally z xs
  tally_cons z x xs = sum_by-cons (λ y. unit_if (same z y)) x xs

  itself : (x : X) → same x x ≡ true
  itself x = (decides x x).1 refl

  flipped : (x y : X) (zs : List X) → IsPermutation (x ∷ y ∷ zs) (y ∷ x ∷ zs)
  flipped x y zs = IsPermutation-append_left zs (x ∷ y ∷ []) (y ∷ x ∷ []) (IsPermutation-append_comm (x ∷ []) (y ∷ []))

  -- one that stands there comes to the front
  in_front : (x : X) (ys : List X) → 1 ≤ tally x ys → (rest : List X) × IsPermutation ys (x ∷ rest)
  in_front x [] h = absurd (omega (arith, h))
  in_front x (y ∷ ys) h = by (same x y) refl (in_front x ys)
    where
      by : (b : Bool) → same x y ≡ b → (1 ≤ tally x ys → (rest : List X) × IsPermutation ys (x ∷ rest)) → (rest : List X) × IsPermutation (y ∷ ys) (x ∷ rest)
      by true e f = (ys, subst (λ z. IsPermutation (y ∷ ys) (z ∷ ys)) (sym ((decides x y).0 e)) (IsPermutation-refl (y ∷ ys)))
      by false e f =
          let c : tally x (y ∷ ys) ≡ unit_if false + tally x ys = tally_cons x y ys ∙ ap (λ b. unit_if b + tally x ys) e in
          let r = f (omega (arith, c, h)) in
          (y ∷ r.0, IsPermutation-trans (y ∷ ys) (y ∷ x ∷ r.0) (x ∷ y ∷ r.0) (IsPermutation-cons y ys (x ∷ r.0) r.1) (flipped y x r.0))

  one_more : (x : X) (xs : List X) → tally x (x ∷ xs) ≡ suc (tally x xs)
  one_more x xs =
      let c : tally x (x ∷ xs) ≡ unit_if true + tally x xs = tally_cons x x xs ∙ ap (λ b. unit_if b + tally x xs) (itself x) in
      omega (arith, c)

  -- lists in which each element stands as many times
  equal_tallies : (xs ys : List X) → ((x : X) → tally x xs ≡ tally x ys) → IsPermutation xs ys
  equal_tallies [] [] h = IsPermutation-refl []
  equal_tallies [] (y ∷ ys) h = let a = h y in let b = one_more y ys in absurd (omega (arith, a, b))
  equal_tallies (x ∷ xs) ys h =
      let r = in_front x ys (let a = h x in let b = one_more x xs in omega (arith, a, b)) in
      IsPermutation-trans (x ∷ xs) (x ∷ r.0) ys (IsPermutation-cons x xs r.0 (equal_tallies xs r.0 (λ z. let a = h z in let b = tally_cons z x xs in let c = sum_by-IsPermutation (λ y. unit_if (same z y)) ys (x ∷ r.0) r.1 in let d = tally_cons z x r.0 in omega (arith, a, b, c, d)))) (IsPermutation-sym ys (x ∷ r.0) r.1)

  one_less : (x : X) (xs ys : List X) → IsPermutation (x ∷ xs) (x ∷ ys) → IsPermutation xs ys
  one_less x xs ys p = equal_tallies xs ys (λ z. let a = sum_by-IsPermutation (λ y. unit_if (same z y)) (x ∷ xs) (x ∷ ys) p in let b = tally_cons z x xs in let c = tally_cons z x ys in omega (arith, a, b, c))

-- the same entries are left where one is taken out of both
pub cancelled : (e : Entry) (xs ys : List Entry) → IsPermutation (e ∷ xs) (e ∷ ys) → IsPermutation xs ys
cancelled e xs ys p = one_less is_same same_entry e xs ys p
