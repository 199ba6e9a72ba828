-- Parts of lists: what is in the first elements and in the others, and that parts of an ascending list ascend.
use Rattle.std.proofs.Common.{◌≡◌, ℕ, ◌<◌, sym, ◌∙◌, subst, ◌⊎◌, inl, inr, List, [], ◌∷◌, ◌++◌, length, get_or, take, drop, Ordering, Less}
use Rattle.std.proofs.lemmas.List.{take-append-drop}
use Rattle.plane_graphs.specs.Ascending.{Member, IsAscending}
use Rattle.plane_graphs.proofs.Ascending.{All-member, from_member}
use Rattle.plane_graphs.proofs.Lists.{in_left, in_right, in_either, ascends_left, ascends_right}
use Rattle.plane_graphs.proofs.Sorting.{any_default}

module _ {X : Type 0} where
  -- an element by its place
  pub place_of : (xs : List X) (x d : X) → Member x xs → (k : ℕ) × (k < length xs) × (get_or xs k d ≡ x)
  place_of xs x d m = let k = from_member xs x m in (k.0, k.1, any_default xs k.0 d x k.1 ∙ k.2)

  pub in_drop : (n : ℕ) (xs : List X) (x : X) → Member x (drop n xs) → Member x xs
  in_drop n xs x m = subst (Member x) (take-append-drop n xs) (in_right x (take n xs) (drop n xs) m)

  pub in_take : (n : ℕ) (xs : List X) (x : X) → Member x (take n xs) → Member x xs
  in_take n xs x m = subst (Member x) (take-append-drop n xs) (in_left x (take n xs) (drop n xs) m)

  pub in_parts : (n : ℕ) (xs : List X) (x : X) → Member x xs → Member x (take n xs) ⊎ Member x (drop n xs)
  in_parts n xs x m = in_either x (take n xs) (drop n xs) (subst (Member x) (sym (take-append-drop n xs)) m)

  module _ (cmp : X → X → Ordering) where
    pub ascends_dropped : (n : ℕ) (xs : List X) → IsAscending cmp xs → IsAscending cmp (drop n xs)
    ascends_dropped n xs a = ascends_right cmp (take n xs) (drop n xs) (subst (IsAscending cmp) (sym (take-append-drop n xs)) a)

    pub ascends_taken : (n : ℕ) (xs : List X) → IsAscending cmp xs → IsAscending cmp (take n xs)
    ascends_taken n xs a = ascends_left cmp (take n xs) (drop n xs) (subst (IsAscending cmp) (sym (take-append-drop n xs)) a)

    -- what stands in the first part comes before what stands in the second
    pub ascends_across : (xs ys : List X) → IsAscending cmp (xs ++ ys) → (x y : X) → Member x xs → Member y ys → cmp x y ≡ Less
    ascends_across [] ys a x y m n = absurd m
    ascends_across (z ∷ xs) ys a x y (inl e) n = subst (λ w. cmp w y ≡ Less) (sym e) (All-member (λ w. cmp z w ≡ Less) y (xs ++ ys) a.0 (in_right y xs ys n))
    ascends_across (z ∷ xs) ys a x y (inr m) n = ascends_across xs ys a.1 x y m n
