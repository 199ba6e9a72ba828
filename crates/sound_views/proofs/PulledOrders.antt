-- Ascending lists under a comparison of images.
use Rattle.std.proofs.Common.{◌≡◌, List, [], ◌∷◌, map, refl, ap, ◌∙◌, Ordering, Less, Equal, Greater}
use Rattle.std.specs.Cmp.{IsTotalOrder}
use Rattle.std.specs.Ordering.{match_ordering}
use Rattle.plane_graphs.specs.Ascending.{place, ascending, Member}
use Rattle.plane_graphs.proofs.Ascending.{IsAscending-ascending, Member-ascending, ascending-Member, ascending_is}
pub use Rattle.plane_graphs.proofs.Ascending.{IsAscending-map}

module _ {X Y : Type 0} (f : X → Y) (cmp : Y → Y → Ordering) where
  -- elements as their images compare
  abbrev pub pulled : X → X → Ordering
  pulled x y = cmp (f x) (f y)

  map_match : (t : Ordering) (x y : X) (ys zs : List X) → map f (match_ordering t (x ∷ y ∷ ys) (y ∷ ys) (y ∷ zs)) ≡ match_ordering t (f x ∷ f y ∷ map f ys) (f y ∷ map f ys) (f y ∷ map f zs)
  map_match Less x y ys zs = refl
  map_match Equal x y ys zs = refl
  map_match Greater x y ys zs = refl

  map_place : (x : X) (ys : List X) → map f (place pulled x ys) ≡ place cmp (f x) (map f ys)
  unfolding place
  map_place x [] = refl
  map_place x (y ∷ ys) = map_match (cmp (f x) (f y)) x y ys (place pulled x ys) ∙ ap (λ zs. match_ordering (cmp (f x) (f y)) (f x ∷ f y ∷ map f ys) (f y ∷ map f ys) (f y ∷ zs)) (map_place x ys)

  -- elements in the order of their images have the images in order; what ties is dropped on both sides
  pub map_ascending : (xs : List X) → map f (ascending pulled xs) ≡ ascending cmp (map f xs)
  unfolding ascending
  map_ascending [] = refl
  map_ascending (x ∷ xs) = map_place x (ascending pulled xs) ∙ ap (place cmp (f x)) (map_ascending xs)

-- two lists of the same elements have one ascending list
pub ascending_same : {X : Type 0} (cmp : X → X → Ordering) (o : IsTotalOrder cmp) (xs ys : List X) → ((x y : X) → Member x ys → Member y ys → cmp x y ≡ Equal → x ≡ y) → ((x : X) → Member x xs → Member x ys) → ((x : X) → Member x ys → Member x xs) → ascending cmp xs ≡ ascending cmp ys
ascending_same cmp o xs ys exact there back =
    ascending_is cmp o ys (ascending cmp xs) exact (IsAscending-ascending cmp o xs) (λ x m. there x (Member-ascending cmp o x xs m))
    (λ x m. ascending-Member cmp o x xs (λ y z a b e. exact y z (there y a) (there z b) e) (back x m))
