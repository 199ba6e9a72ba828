-- Places in a list whose elements differ, and in an ascending list.
use Rattle.std.proofs.Common.{◌≡◌, ℕ, zero, suc, ◌+◌, ◌<◌, ◌≤◌, Bool, true, cond, List, [], ◌∷◌, length, get_or, Ok, Err, Result, Contains, Ordering, Less, Equal, sym, ap, ◌∙◌, subst, arith, inl, inr}
use Rattle.std.specs.List.{count_by, position_or_len}
use Rattle.std.specs.List.Sorted.{IsBinarySearchResult, IsSearchInRange}
use Rattle.std.specs.Result.{result_unwrap_or}
use Rattle.std.specs.Cmp.{IsTotalOrder}
use Rattle.std.proofs.lemmas.Bool.{false_from_ne_true, cases_order}
use Rattle.std.proofs.lemmas.Cmp.{tied_itself}
use Rattle.std.proofs.lemmas.List.Elements.{Contains-get_or}
use Rattle.std.proofs.lemmas.List.Sums.{position_or_len_is, sum_by-cons}
use Rattle.plane_graphs.specs.Ascending.{Member, IsAscending}
use Rattle.plane_graphs.proofs.Ascending.{from_member}
use Rattle.plane_graphs.proofs.Sorting.{rises}
use Rattle.slab_faces.proofs.ClassesLemmas.{IsExact}
use Rattle.slab_faces.proofs.Places.{place_is, found_at}
use Rattle.dart_orbits.proofs.SearchedLists.{absent}

module _ {X : Type 0} where
  -- no element stands at two places
  pub record AreApart (xs : List X) : Type 0 where
    pub differ : (j k : ℕ) (d : X) → j < k → k < length xs → get_or xs j d ≡ get_or xs k d → ⊥

  pub one_place : (xs : List X) → AreApart xs → (j k : ℕ) (d : X) → j < length xs → k < length xs → get_or xs j d ≡ get_or xs k d → j ≡ k
  one_place xs a j k d J K e =
      elim (cases_order j k) [
        | inl same ↦ same
        | inr (inl l) ↦ absurd (a.differ j k d l K e)
        | inr (inr l) ↦ absurd (a.differ k j d l J (sym e))
      ]

  module _ (same : X → X → Bool) (exact : IsExact same) where
    -- an element stands at its place
    pub place_at : (xs : List X) → AreApart xs → (k : ℕ) (d : X) → k < length xs → position_or_len (same (get_or xs k d)) xs ≡ k
    place_at xs a k d K =
        position_or_len_is (same (get_or xs k d)) xs k d (omega arith)
        (λ j l. false_from_ne_true _ (λ h. a.differ j k d l K (sym (exact.path (get_or xs k d) (get_or xs j d) h))))
        (λ _. exact.itself (get_or xs k d))

    pub place_within : (xs : List X) (x : X) → Member x xs → position_or_len (same x) xs < length xs
    place_within xs x m = place_is same exact xs x (from_member xs x m)

    -- what stands at an element's place
    pub at_place : (xs : List X) (x d : X) → Member x xs → get_or xs (position_or_len (same x) xs) d ≡ x
    at_place xs x d m = found_at same exact xs x d (from_member xs x m)

  -- ---- elements that count once
  one_more : (p : X → Bool) (x : X) (xs : List X) → p x ≡ true → count_by p (x ∷ xs) ≡ 1 + count_by p xs
  one_more p x xs h = sum_by-cons (λ y. cond (p y) 1 0) x xs ∙ ap (λ b. cond b 1 0 + count_by p xs) h

  no_less : (p : X → Bool) (x : X) (xs : List X) → count_by p xs ≤ count_by p (x ∷ xs)
  no_less p x xs = let e : count_by p (x ∷ xs) ≡ cond (p x) 1 0 + count_by p xs = sum_by-cons (λ y. cond (p y) 1 0) x xs in omega arith

  counts : (p : X → Bool) (xs : List X) (k : ℕ) (d : X) → k < length xs → p (get_or xs k d) ≡ true → 1 ≤ count_by p xs
  counts p [] k d l h = absurd (omega arith)
  counts p (x ∷ xs) zero d l h = let e = one_more p x xs h in omega arith
  counts p (x ∷ xs) (suc k) d l h = let a = counts p xs k d (omega arith) h in let b = no_less p x xs in omega arith

  twice : (p : X → Bool) (xs : List X) (j k : ℕ) (d : X) → j < k → k < length xs → p (get_or xs j d) ≡ true → p (get_or xs k d) ≡ true → 2 ≤ count_by p xs
  twice p [] j k d l m g h = absurd (omega arith)
  twice p (x ∷ xs) j zero d l m g h = absurd (omega arith)
  twice p (x ∷ xs) zero (suc k) d l m g h = let a = counts p xs k d (omega arith) h in let e = one_more p x xs g in omega arith
  twice p (x ∷ xs) (suc j) (suc k) d l m g h = let a = twice p xs j k d (omega arith) (omega arith) g h in let b = no_less p x xs in omega arith

  pub counted_apart : (same : X → X → Bool) (xs : List X) → IsExact same → ((x : X) → Contains xs x → count_by (same x) xs ≡ 1) → AreApart xs
  counted_apart same xs exact once = record {
    differ = λ j k d l m e.
        let x = get_or xs j d in
        let n = once x (Contains-get_or xs j d (omega arith)) in
        let t = twice (same x) xs j k d l m (exact.itself x) (subst (λ y. same x y ≡ true) e (exact.itself x)) in
        omega arith;
  }

-- ---- ascending lists
module _ {X : Type 0} (cmp : X → X → Ordering) (o : IsTotalOrder cmp) where
  pub ascending_apart : (xs : List X) → IsAscending cmp xs → AreApart xs
  ascending_apart xs h = record {
    differ = λ j k d l m e. let a = rises cmp xs h j k d l m in let b = tied_itself o (get_or xs k d) in let c : cmp (get_or xs k d) (get_or xs k d) ≡ Less = subst (λ x. cmp x (get_or xs k d) ≡ Less) e a in absurd cc;
  }

  -- lesser elements stand at lower places
  pub lower : (xs : List X) → IsAscending cmp xs → (j k : ℕ) (d : X) → j < length xs → k < length xs → cmp (get_or xs j d) (get_or xs k d) ≡ Less → j < k
  lower xs h j k d J K e =
      elim (cases_order j k) [
        | inl same ↦ absurd (let t = tied_itself o (get_or xs k d) in let u = subst (λ i. cmp (get_or xs i d) (get_or xs k d) ≡ Less) same e in cc)
        | inr (inl l) ↦ l
        | inr (inr l) ↦ absurd (let a = rises cmp xs h k j d l J in let b = o.trans (get_or xs j d) (get_or xs k d) (get_or xs j d) e a in let t = tied_itself o (get_or xs j d) in cc)
      ]

  -- where a search finds an element
  pub search_finds : (xs : List X) (x d : X) (r : Result ℕ ℕ) → IsAscending cmp xs → ((y : X) → cmp y x ≡ Equal → y ≡ x) → Member x xs → IsSearchInRange r (length xs) → IsBinarySearchResult (λ y. cmp y x) xs r → (result_unwrap_or r (length xs) < length xs) × (get_or xs (result_unwrap_or r (length xs)) d ≡ x)
  search_finds xs x d (Ok i) h exact m l s = (l, exact _ (s d))
  search_finds xs x d (Err i) h exact m l s = absurd (absent cmp o x xs i h s (from_member xs x m))

  -- or that there is none
  pub search_places : (same : X → X → Bool) → IsExact same → (xs : List X) (x : X) (r : Result ℕ ℕ) → IsAscending cmp xs → ((y : X) → cmp y x ≡ Equal → y ≡ x) → IsSearchInRange r (length xs) → IsBinarySearchResult (λ y. cmp y x) xs r → result_unwrap_or r (length xs) ≡ position_or_len (same x) xs
  search_places same e xs x (Ok i) h exact l s =
      sym (place_at same e xs (ascending_apart xs h) i x l) ∙ ap (λ y. position_or_len (same y) xs) (exact (get_or xs i x) (s x))
  search_places same e xs x (Err i) h exact l s =
      sym (position_or_len_is (same x) xs (length xs) x (omega arith)
      (λ k K. false_from_ne_true _ (λ t. absent cmp o x xs i h s (k, K, sym (e.path x (get_or xs k x) t))))
      (λ k. absurd (omega arith)))
