-- Parts of lists: what is in the first elements and in the others, where a list is parted, and when a list ascends.
use Rattle.std.proofs.Common.{◌≡◌, ℕ, zero, suc, ◌<◌, ◌≤◌, refl, sym, subst, arith, inl, inr, Bool, true, false, List, [], ◌∷◌, ◌++◌, length, get_or, take, drop, Ordering, Less}
use Rattle.std.specs.List.{prefix_len}
use Rattle.std.specs.List.Sorted.{IsPartitionPoint, IsPartitionedBy}
use Rattle.std.proofs.lemmas.Bool.{false_from_ne_true}
use Rattle.std.proofs.lemmas.List.Sums.{prefix_len_passes, prefix_len_stops}
use Rattle.plane_graphs.specs.Ascending.{Member, IsAscending}
use Rattle.plane_graphs.proofs.Ascending.{All-member}
use Rattle.plane_graphs.proofs.Lists.{in_either}
use Rattle.plane_graphs.proofs.Sorting.{all_members}

-- what holds of the first elements, or of the others, by place, holds of each
pub within_take : {X : Type 0} (P : X → Type 0) (xs : List X) (k : ℕ) → ((j : ℕ) (d : X) → 0 ≤ j → j < k → P (get_or xs j d)) → (x : X) → Member x (take k xs) → P x
within_take P [] zero f x m = absurd m
within_take P [] (suc k) f x m = absurd m
within_take P (y ∷ ys) zero f x m = absurd m
within_take P (y ∷ ys) (suc k) f x (inl e) = subst P (sym e) (f 0 x (omega arith) (omega arith))
within_take P (y ∷ ys) (suc k) f x (inr m) = within_take P ys k (λ j d a b. f (suc j) d (omega arith) (omega (arith, b))) x m

pub within_drop : {X : Type 0} (P : X → Type 0) (xs : List X) (k : ℕ) → ((j : ℕ) (d : X) → k ≤ j → j < length xs → P (get_or xs j d)) → (x : X) → Member x (drop k xs) → P x
within_drop P [] zero f x m = absurd m
within_drop P [] (suc k) f x m = absurd m
within_drop P (y ∷ ys) zero f x (inl e) = subst P (sym e) (f 0 x (omega arith) (omega arith))
within_drop P (y ∷ ys) zero f x (inr m) = within_drop P ys zero (λ j d a b. f (suc j) d (omega arith) (omega (arith, b))) x m
within_drop P (y ∷ ys) (suc k) f x m = within_drop P ys k (λ j d a b. f (suc j) d (omega (arith, a)) (omega (arith, b))) x m

-- where the first that fails stands, a list is parted
pub first_parted : {X : Type 0} (p : X → Bool) (xs : List X) (n : ℕ) → n ≡ prefix_len p xs → IsPartitionedBy p xs → IsPartitionPoint (λ x. p x ≡ true) (λ x. p x ≡ false) xs n
first_parted p xs n e h = (
  λ j d a l. prefix_len_passes p xs j d (omega arith),
  λ j d a l.
      let m : prefix_len p xs < length xs = omega arith in
      let k : prefix_len p xs ≤ j = omega arith in
      false_from_ne_true _ (λ t. let u = h (prefix_len p xs) j d k l t in let v = prefix_len_stops p xs d m in absurd cc),
)

-- ---- ascending lists
module _ {X : Type 0} where
  -- the same list by another order that agrees on its pairs
  pub ascends_by : (c d : X → X → Ordering) (xs : List X) → ((x y : X) → Member x xs → Member y xs → c x y ≡ Less → d x y ≡ Less) → IsAscending c xs → IsAscending d xs
  ascends_by c d [] f a = tt
  ascends_by c d (x ∷ xs) f a = (all_members (λ y. d x y ≡ Less) xs (λ y m. f x y (inl refl) (inr m) (All-member (λ y. c x y ≡ Less) y xs a.0 m)), ascends_by c d xs (λ y z m n. f y z (inr m) (inr n)) a.1)

  pub append_ascends : (c : X → X → Ordering) (xs ys : List X) → IsAscending c xs → IsAscending c ys → ((x y : X) → Member x xs → Member y ys → c x y ≡ Less) → IsAscending c (xs ++ ys)
  append_ascends c [] ys a b f = b
  append_ascends c (x ∷ xs) ys a b f = (
    all_members (λ y. c x y ≡ Less) (xs ++ ys) (λ y m. elim (in_either y xs ys m) [ inl n ↦ All-member (λ y. c x y ≡ Less) y xs a.0 n | inr n ↦ f x y (inl refl) n ]),
    append_ascends c xs ys a.1 b (λ y z m n. f y z (inr m) n),
  )
