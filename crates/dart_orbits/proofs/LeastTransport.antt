-- Classes of numbers, and of the elements that the numbers stand for.
--     transported      the least of a class of numbers stands for the least of the class of elements
use Rattle.std.proofs.Common.{◌≡◌, ℕ, ◌<◌, ◌≤◌, Bool, true, false, List, refl, sym, ap, ◌∙◌, subst, arith, ◌⊎◌, inl, inr}
use Rattle.std.proofs.lemmas.Bool.{ltb-false, le-ltb, cases_order, eqb-true, eq-eqb}
use Rattle.slab_laws.specs.declared.classes.Link.{Link}
use Rattle.slab_laws.specs.Classes.{class_of, classes}
use Rattle.slab_faces.proofs.Member.{Member}
use Rattle.slab_faces.proofs.ClassesLemmas.{IsExact, IsOrder, IsEquivalence, along_link, connected, not_above}
use Rattle.dart_orbits.specs.LeastNumbers.{same_number, is_less}

-- ---- numbers
pub numbers_exact : IsExact same_number
numbers_exact = record { itself = λ j. eq-eqb j j refl; path = λ j k h. eqb-true j k h }

pub numbers_order : IsOrder is_less
numbers_order = record {
  itself = λ j. le-ltb j j (omega arith);
  down = λ i j k p q. le-ltb i k (let a : j ≤ i = ltb-false i j p in let b : k ≤ j = ltb-false j k q in omega arith);
  asym = λ j k p. le-ltb k j (less j k p);
}
  where
    less : (j k : ℕ) → is_less j k ≡ true → j ≤ k
    less j k p = elim (cases_order j k) [
      | inl e ↦ omega arith
      | inr (inl h) ↦ omega arith
      | inr (inr h) ↦ let f : is_less j k ≡ false = le-ltb j k (omega arith) in absurd cc
    ]

-- the least of the class of a number
abbrev pub least_number : List (Link ℕ) → ℕ → ℕ
least_number ls k = class_of same_number (classes same_number is_less ls) k

-- it is not above the number
pub least_number-le : (ls : List (Link ℕ)) (k : ℕ) → least_number ls k ≤ k
least_number-le ls k = ltb-false k (least_number ls k) (not_above same_number is_less numbers_exact numbers_order ls k)

-- ---- elements that numbers stand for
-- the numbers below n stand for elements in their order, and the links ns for the links ms
pub record StandsFor {X : Type 0} (below : X → X → Bool) (at : ℕ → X) (n : ℕ) (ns : List (Link ℕ)) (ms : List (Link X)) : Type 0 where
  pub rises : (j k : ℕ) → j < n → k < n → below (at j) (at k) ≡ is_less j k
  pub inside : (l : Link ℕ) → Member ns l → (l.one < n) × (l.other < n)
  pub to : (l : Link ℕ) → Member ns l → Member ms (record { one = at l.one; other = at l.other })
  pub from : (m : Link X) → Member ms m → (l : Link ℕ) × Member ns l × (at l.one ≡ m.one) × (at l.other ≡ m.other)

module _ {X : Type 0} (same below : X → X → Bool) (exact : IsExact same) (order : IsOrder below) (at : ℕ → X) (n : ℕ) (ns : List (Link ℕ)) (ms : List (Link X)) (h : StandsFor below at n ns ms) where
  least_element : X → X
  least_element x = class_of same (classes same below ms) x

  -- two numbers stand for different elements
  one_to_one : (j k : ℕ) → j < n → k < n → at j ≡ at k → j ≡ k
  one_to_one j k a b e =
      let p : is_less j k ≡ false = sym (h.rises j k a b) ∙ ap (λ x. below x (at k)) e ∙ order.itself (at k) in
      let q : is_less k j ≡ false = sym (h.rises k j b a) ∙ ap (λ x. below (at k) x) e ∙ order.itself (at k) in
      let r : k ≤ j = ltb-false j k p in
      let s : j ≤ k = ltb-false k j q in
      omega arith

  -- a number's least one stands for an element of the same class
  same_class : (k : ℕ) → least_element (at k) ≡ least_element (at (least_number ns k))
  unfolding least_element
  same_class k =
      connected same_number is_less numbers_exact (λ i j. least_element (at i) ≡ least_element (at j))
      (record { itself = λ i. refl; back = λ i j e. sym e; on = λ i j k e f. e ∙ f })
      ns (λ l m. along_link same below exact ms (record { one = at l.one; other = at l.other }) (h.to l m)) k

  -- numbers of one class stand for both
  Numbered : X → X → Type 0
  Numbered x y = (j : ℕ) × (k : ℕ) × (j < n) × (k < n) × (at j ≡ x) × (at k ≡ y) × (least_number ns j ≡ least_number ns k)

  Related : X → X → Type 0
  Related x y = (x ≡ y) ⊎ Numbered x y

  related : IsEquivalence Related
  unfolding Related Numbered
  related = record { itself = λ x. inl refl; back = λ x y r. back x y r; on = λ x y z r s. on x y z r s }
    where
      back : (x y : X) → (x ≡ y) ⊎ Numbered x y → (y ≡ x) ⊎ Numbered y x
      back x y (inl e) = inl (sym e)
      back x y (inr (j, k, a, b, e, f, g)) = inr (k, j, b, a, f, e, sym g)

      on : (x y z : X) → (x ≡ y) ⊎ Numbered x y → (y ≡ z) ⊎ Numbered y z → (x ≡ z) ⊎ Numbered x z
      on x y z (inl e) s = subst (λ w. (w ≡ z) ⊎ Numbered w z) (sym e) s
      on x y z (inr r) (inl e) = inr (subst (λ w. Numbered x w) e r)
      on x y z (inr (j, k, a, b, e, f, g)) (inr (j', k', a', b', e', f', g')) =
          inr (j, k', a, b', e, f', g ∙ ap (least_number ns) (one_to_one k j' b a' (f ∙ sym e')) ∙ g')

  -- the least element of the class of a number's element has a number of the same class
  numbered : (k : ℕ) → k < n → (j : ℕ) × (j < n) × (at j ≡ least_element (at k)) × (least_number ns j ≡ least_number ns k)
  unfolding least_element Related Numbered
  numbered k lt = from (connected same below exact Related related ms linked (at k))
    where
      linked : (m : Link X) → Member ms m → Related m.one m.other
      linked m i =
          let (l, j, e, f) = h.from m i in
          inr (l.one, l.other, (h.inside l j).0, (h.inside l j).1, e, f, along_link same_number is_less numbers_exact ns l j)

      from : Related (at k) (least_element (at k)) → (j : ℕ) × (j < n) × (at j ≡ least_element (at k)) × (least_number ns j ≡ least_number ns k)
      from (inl e) = (k, lt, e, refl)
      from (inr (j, i, a, b, e, f, g)) = (i, b, f, sym g ∙ ap (least_number ns) (one_to_one j k a lt e))

  pub transported : (k : ℕ) → k < n → at (least_number ns k) ≡ class_of same (classes same below ms) (at k)
  unfolding least_element
  transported k lt =
      let (j, a, e, f) = numbered k lt in
      let low : least_number ns k < n = let le = least_number-le ns k in omega arith in
      let up : least_number ns k ≤ j = subst (λ i. i ≤ j) f (least_number-le ns j) in
      let here : least_element (at (least_number ns k)) ≡ at j = sym (same_class k) ∙ sym e in
      let not_below : below (at (least_number ns k)) (at j) ≡ false = subst (λ x. below (at (least_number ns k)) x ≡ false) here (not_above same below exact order ms (at (least_number ns k))) in
      let down : j ≤ least_number ns k = ltb-false (least_number ns k) j (sym (h.rises (least_number ns k) j low a) ∙ not_below) in
      let one : least_number ns k ≡ j = omega arith in
      ap at one ∙ e
