-- A list that is sorted, and then has each element once.
use Rattle.std.proofs.Common.{◌≡◌, List, [], ◌∷◌, map, Bool, true, Any, sym, ap, ◌∙◌, subst, Ordering, Less, Equal, refl}
use Rattle.std.specs.Cmp.{IsTotalOrder, on_total}
use Rattle.std.specs.List.{dedup, AllByRecursion}
use Rattle.std.specs.List.Retain.{IsFiltered, DiffersFromLast}
use Rattle.std.specs.List.Sorted.{IsPermutation, IsSorted}
use Rattle.std.specs.Ordering.{eq_by_cmp}
use Rattle.std.proofs.lemmas.Cmp.{eq_by_cmp_equiv}
use Rattle.std.proofs.lemmas.List.Filters.{dedup_is}
use Rattle.std.proofs.lemmas.List.Kept.{Any-dedup, Contains-from_dedup, IsStrictlySortedBy-dedup}
use Rattle.std.proofs.lemmas.List.Sorted.{Contains-permutation, IsPermutation-sym}
use Rattle.plane_graphs.specs.Ascending.{ascending, Member, IsAscending}
use Rattle.plane_graphs.proofs.Ascending.{ascending_is, from_std, to_member, from_member}
use Rattle.plane_graphs.proofs.Lists.{in_map, of_map}
use Rattle.integers.proofs.Tests.{is_equal}

-- by the order of what f makes of the elements
module _ {X Y : Type 0} (f : X → Y) (R : Y → Y → Ordering) (o : IsTotalOrder R) (exact : (x y : Y) → R x y ≡ Equal → x ≡ y) where
  All-map : (P : Y → Type 0) (xs : List X) → AllByRecursion (λ x. P (f x)) xs → AllByRecursion P (map f xs)
  All-map P [] a = tt
  All-map P (x ∷ xs) a = (a.0, All-map P xs a.1)

  ascends : (xs : List X) → IsAscending (λ x y. R (f x) (f y)) xs → IsAscending R (map f xs)
  ascends [] a = tt
  ascends (x ∷ xs) a = (All-map (λ y. R (f x) y ≡ Less) xs a.0, ascends xs a.1)

  module _ (old mid : List X) (moved : IsPermutation old mid) where
    abbrev kept : List X
    kept = dedup (eq_by_cmp (λ x y. R (f x) (f y))) mid

    was : (y : Y) → Member y (map f kept) → Member y (map f old)
    was y m =
        let w = of_map f y kept m in
        subst (λ z. Member z (map f old)) (sym w.2) (in_map f w.0 old (to_member old w.0 (Contains-permutation _ _ w.0 (IsPermutation-sym _ _ moved) (Contains-from_dedup _ mid w.0 (from_member _ w.0 w.1)))))

    stays : (y : Y) → Member y (map f old) → Member y (map f kept)
    stays y m =
        let w = of_map f y old m in
        found w.0 (Any-dedup (eq_by_cmp_equiv (on_total f o)) mid w.0 (Contains-permutation _ _ w.0 moved (from_member old w.0 w.1))) w.2
      where
        found : (x : X) → Any (λ z. eq_by_cmp (λ x y. R (f x) (f y)) x z ≡ true) kept → y ≡ f x → Member y (map f kept)
        found x (k, z, low, is, e) i =
            let same : f x ≡ f z = exact (f x) (f z) (is_equal (R (f x) (f z)) e) in
            subst (λ w. Member w (map f kept)) (sym (i ∙ same)) (in_map f z kept (to_member kept z (k, low, is)))

    pub arranged : (E : X → X → Bool) (out : List X) → ((x y : X) → E x y ≡ eq_by_cmp (λ x y. R (f x) (f y)) x y) → IsSorted (λ x y. R (f x) (f y)) mid → IsFiltered (DiffersFromLast E) [] mid out → map f out ≡ ascending R (map f old)
    arranged E out ties sorted filtered =
        let is : out ≡ kept = dedup_is _ mid out (subst (λ F. IsFiltered (DiffersFromLast F) [] mid out) (λ i x y. ties x y i) filtered) in
        let ups : IsAscending R (map f kept) = ascends kept (from_std _ _ (IsStrictlySortedBy-dedup (on_total f o) (λ x y. refl) mid sorted)) in
        ap (map f) is ∙ ascending_is R o (map f old) (map f kept) (λ x y m n. exact x y) ups was stays
