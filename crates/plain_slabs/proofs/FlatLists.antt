-- The lists of an ascending list's elements, one after another, ascend where each does and they don't overlap.
use Rattle.std.proofs.Common.{◌≡◌, List, [], ◌∷◌, ◌++◌, Ordering, Less, inl, inr, refl}
use Rattle.std.specs.List.{AllByRecursion, flat_map}
use Rattle.plane_graphs.specs.Ascending.{Member, IsAscending}
use Rattle.plane_graphs.proofs.Ascending.{All-member}
use Rattle.plane_graphs.proofs.Lists.{of_flat_map}
use Rattle.record_orders.proofs.Sorting.{all_members}

module _ {X : Type 0} (cmp : X → X → Ordering) where
  all_of_both : (P : X → Type 0) (xs ys : List X) → AllByRecursion P xs → AllByRecursion P ys → AllByRecursion P (xs ++ ys)
  all_of_both P [] ys a b = b
  all_of_both P (x ∷ xs) ys a b = (a.0, all_of_both P xs ys a.1 b)

  appended_ascend : (xs ys : List X) → IsAscending cmp xs → IsAscending cmp ys → ((x y : X) → Member x xs → Member y ys → cmp x y ≡ Less) → IsAscending cmp (xs ++ ys)
  appended_ascend [] ys a b f = b
  appended_ascend (x ∷ xs) ys a b f =
      (all_of_both (λ y. cmp x y ≡ Less) xs ys a.0 (all_members (λ y. cmp x y ≡ Less) ys (λ y m. f x y (inl refl) m)), appended_ascend xs ys a.1 b (λ z y m n. f z y (inr m) n))

module _ {X Y : Type 0} (R : X → X → Ordering) (cmp : Y → Y → Ordering) (f : X → List Y) where
  pub flat_ascends : (xs : List X) → ((x : X) → Member x xs → IsAscending cmp (f x)) → ((x z : X) → R x z ≡ Less → (a b : Y) → Member a (f x) → Member b (f z) → cmp a b ≡ Less) → IsAscending R xs → IsAscending cmp (flat_map f xs)
  flat_ascends [] each apart a = tt
  flat_ascends (x ∷ xs) each apart a =
      appended_ascend cmp (f x) (flat_map f xs) (each x (inl refl)) (flat_ascends xs (λ z m. each z (inr m)) apart a.1)
      (λ p q m n. let w = of_flat_map f q xs n in apart x w.0 (All-member (λ z. R x z ≡ Less) w.0 xs a.0 w.1) p q m w.2)
