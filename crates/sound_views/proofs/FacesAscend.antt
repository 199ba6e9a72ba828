-- Ascending lists: of elements that all differ none is dropped, and the first of a kind is the least of it.
use Rattle.std.proofs.Common.{◌≡◌, suc, ◌+◌, ◌≤◌, Bool, true, false, cond, arith, refl, sym, ◌∙◌, subst, inl, inr, List, [], ◌∷◌, length, Ordering, Less, Equal, Greater}
use Rattle.std.specs.Prelude.{⊤, not, filter}
use Rattle.std.specs.List.{AllByRecursion, count_by}
use Rattle.std.specs.Ordering.{match_ordering}
use Rattle.std.specs.Cmp.{IsTotalOrder}
use Rattle.std.proofs.lemmas.Cmp.{tied_itself}
use Rattle.std.proofs.lemmas.Bool.{false≢true}
use Rattle.std.proofs.lemmas.List.Sums.{sum_by-cons}
use Rattle.plane_graphs.specs.Ascending.{place, ascending, Member, IsAscending}
use Rattle.plane_graphs.proofs.Ascending.{IsExactOn, Member-ascending, All-member, from_member}
use Rattle.plane_graphs.proofs.Lists.{of_filter, in_filter, IsAscending-filter, not_in, not_out, clash}
use Rattle.slab_laws.specs.Listed.{distinct}
use Rattle.slab_faces.proofs.Sums.{fewer_than}
use Rattle.slab_faces.proofs.ClassesLemmas.{IsExact}
use Rattle.sound_views.proofs.FirstDarts.{of_distinct}

-- ---- elements that all differ
module _ {X : Type 0} where
  abbrev pub AreDifferent : List X → Type 0
  AreDifferent [] = ⊤
  AreDifferent (x ∷ xs) = (Member x xs → ⊥) × AreDifferent xs

  counted : (p : X → Bool) (x : X) (xs : List X) → Member x xs → p x ≡ true → 1 ≤ count_by p xs
  counted p x xs m h = let k = fewer_than (λ y. false) p xs x (from_member xs x m) refl h (λ z _ n. absurd (false≢true n)) in omega arith

  tally : (p : X → Bool) (x : X) (xs : List X) → count_by p (x ∷ xs) ≡ cond (p x) 1 0 + count_by p xs
  tally p x xs = sum_by-cons (λ y. cond (p y) 1 0) x xs

  -- each counts once
  pub different : (same : X → X → Bool) → IsExact same → (xs : List X) → ((x : X) → Member x xs → count_by (same x) xs ≤ 1) → AreDifferent xs
  different same exact [] h = tt
  different same exact (x ∷ xs) h = (
    λ m.
        let a = counted (same x) x xs m (exact.itself x) in
        let b : count_by (same x) (x ∷ xs) ≡ 1 + count_by (same x) xs = subst (λ t. count_by (same x) (x ∷ xs) ≡ cond t 1 0 + count_by (same x) xs) (exact.itself x) (tally (same x) x xs) in
        let c = h x (inl refl) in
        absurd (omega arith),
    different same exact xs (λ y m. let b = tally (same y) x xs in let c = h y (inr m) in omega arith),
  )

module _ {X : Type 0} (cmp : X → X → Ordering) where
  placed : (x : X) (ys : List X) → ((y : X) → Member y ys → cmp x y ≡ Equal → ⊥) → length (place cmp x ys) ≡ suc (length ys)
  unfolding place
  placed x [] h = refl
  placed x (y ∷ ys) h = step (cmp x y) refl (placed x ys (λ z m. h z (inr m)))
    where
      step : (t : Ordering) → cmp x y ≡ t → length (place cmp x ys) ≡ suc (length ys) → length (match_ordering t (x ∷ y ∷ ys) (y ∷ ys) (y ∷ place cmp x ys)) ≡ suc (length (y ∷ ys))
      step Less e n = omega arith
      step Equal e n = absurd (h y (inl refl) e)
      step Greater e n = omega arith

  pub none_dropped : (o : IsTotalOrder cmp) (xs : List X) → IsExactOn cmp o xs → AreDifferent xs → length (ascending cmp xs) ≡ length xs
  unfolding ascending
  none_dropped o [] h d = refl
  none_dropped o (x ∷ xs) h d =
      let a = placed x (ascending cmp xs) (λ y m e. let n = Member-ascending cmp o y xs m in d.0 (subst (λ z. Member z xs) (sym (h x y (inl refl) (inr n) e)) n)) in
      let b = none_dropped o xs (λ y z m n. h y z (inr m) (inr n)) d.1 in
      omega arith

-- ---- the first of each kind
module _ {X : Type 0} (cmp : X → X → Ordering) (o : IsTotalOrder cmp) (same : X → X → Bool) where
  All-of : (P : X → Type 0) (xs : List X) → ((x : X) → Member x xs → P x) → AllByRecursion P xs
  All-of P [] h = tt
  All-of P (x ∷ xs) h = (h x (inl refl), All-of P xs (λ y m. h y (inr m)))

  pub distinct_ascends : (xs : List X) → IsAscending cmp xs → IsAscending cmp (distinct same xs)
  unfolding distinct
  distinct_ascends [] a = tt
  distinct_ascends (x ∷ xs) a = (
    All-of (λ y. cmp x y ≡ Less) (filter (λ y. not (same x y)) (distinct same xs)) (λ y m. All-member (λ z. cmp x z ≡ Less) y xs a.0 (of_distinct same y xs (of_filter (λ z. not (same x z)) y (distinct same xs) m).0)),
    IsAscending-filter cmp (λ y. not (same x y)) (distinct same xs) (distinct_ascends xs a.1),
  )

  irreflexive : (x : X) → cmp x x ≡ Less → ⊥
  irreflexive x e = let t = tied_itself o x in cc

  -- nothing that is same as the first of a kind comes before it
  pub none_before : (xs : List X) → IsAscending cmp xs → (x y : X) → Member x (distinct same xs) → Member y xs → same y x ≡ true → cmp y x ≡ Less → ⊥
  unfolding distinct
  none_before [] a x y m n s l = absurd m
  none_before (z ∷ zs) a x y (inl e) (inl f) s l = irreflexive x (subst (λ w. cmp w x ≡ Less) (f ∙ sym e) l)
  none_before (z ∷ zs) a x y (inl e) (inr n) s l = irreflexive y (o.trans y x y l (subst (λ w. cmp w y ≡ Less) (sym e) (All-member (λ w. cmp z w ≡ Less) y zs a.0 n)))
  none_before (z ∷ zs) a x y (inr m) (inl f) s l = clash (subst (λ w. same w x ≡ true) f s) (not_out (same z x) (of_filter (λ w. not (same z w)) x (distinct same zs) m).1)
  none_before (z ∷ zs) a x y (inr m) (inr n) s l = none_before zs a.1 x y (of_filter (λ w. not (same z w)) x (distinct same zs) m).0 n s l

  -- an element that nothing same comes before is the first of its kind
  pub first_there : (xs : List X) → IsAscending cmp xs → (x : X) → Member x xs → ((y : X) → Member y xs → same y x ≡ true → cmp y x ≡ Less → ⊥) → Member x (distinct same xs)
  unfolding distinct
  first_there [] a x m h = absurd m
  first_there (z ∷ zs) a x (inl e) h = inl e
  first_there (z ∷ zs) a x (inr m) h =
      inr (in_filter (λ w. not (same z w)) x (distinct same zs) (first_there zs a.1 x m (λ y n. h y (inr n)))
      (not_in (same z x) (λ s. h z (inl refl) s (All-member (λ w. cmp z w ≡ Less) x zs a.0 m))))
