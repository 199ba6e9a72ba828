-- What a sort leaves of a list whose elements differ; and ascending lists by their places.
use Rattle.std.proofs.Common.{◌≡◌, ℕ, zero, suc, ◌<◌, ◌≤◌, Bool, true, cond, List, [], ◌∷◌, length, get_or, Ordering, Less, refl, ap, ◌∙◌, subst, arith, inl, inr, ◌⊎◌}
use Rattle.std.specs.List.{AllByRecursion, IsDistinct, dedup, dedup_from}
use Rattle.std.specs.List.Sorted.{IsPermutation, IsSorted, IsStrictlySortedBy, IsPartitionedBy}
use Rattle.std.specs.Ordering.{eq_by_cmp}
use Rattle.std.specs.Cmp.{IsTotalOrder}
use Rattle.std.proofs.lemmas.Bool.{cases_lt}
use Rattle.std.proofs.lemmas.Cmp.{eq_by_cmp_equiv}
use Rattle.std.proofs.lemmas.List.Kept.{IsStrictlySortedBy-dedup}
use Rattle.std.proofs.lemmas.Map.Keys.{IsDistinct-IsPermutation}
use Rattle.plane_graphs.specs.Ascending.{IsAscending, Member}
use Rattle.plane_graphs.proofs.Ascending.{All-member, from_std}

pub all_members : {X : Type 0} (P : X → Type 0) (xs : List X) → ((x : X) → Member x xs → P x) → AllByRecursion P xs
all_members P [] f = tt
all_members P (x ∷ xs) f = (f x (inl refl), all_members P xs (λ y m. f y (inr m)))

-- ---- a list whose elements differ loses none
module _ {X : Type 0} (same : X → X → Bool) (flips : (x y : X) → same x y ≡ same y x) where
  kept_from : (x : X) (xs : List X) → IsDistinct same (x ∷ xs) → dedup_from same x xs ≡ x ∷ xs
  unfolding IsDistinct
  kept_from x [] h = refl
  kept_from x (y ∷ ys) h = ap (λ b. cond b (dedup_from same x ys) (x ∷ dedup_from same y ys)) (flips y x ∙ h.0.0) ∙ ap (λ zs. x ∷ zs) (kept_from y ys h.1)

  pub all_kept : (xs : List X) → IsDistinct same xs → dedup same xs ≡ xs
  all_kept [] h = refl
  all_kept (x ∷ xs) h = kept_from x xs h

-- sorted, it ascends
pub sorted_ascends : {X : Type 0} (cmp : X → X → Ordering) (o : IsTotalOrder cmp) (us vs : List X) → IsDistinct (eq_by_cmp cmp) us → IsPermutation us vs → IsSorted cmp vs → IsAscending cmp vs
sorted_ascends cmp o us vs d p s =
    from_std cmp vs
    (subst (λ zs. IsStrictlySortedBy cmp zs) (all_kept (eq_by_cmp cmp) (eq_by_cmp_equiv o).symm vs (IsDistinct-IsPermutation (eq_by_cmp cmp) (eq_by_cmp_equiv o).symm us vs p d))
    (IsStrictlySortedBy-dedup o (λ x y. refl) vs s))

-- ---- places
module _ {X : Type 0} where
  pub member_at : (xs : List X) (k : ℕ) (d : X) → k < length xs → Member (get_or xs k d) xs
  member_at [] k d h = absurd (omega (arith, h))
  member_at (x ∷ xs) zero d h = inl refl
  member_at (x ∷ xs) (suc k) d h = inr (member_at xs k d (omega (arith, h)))

  pub any_default : (xs : List X) (i : ℕ) (d e : X) → i < length xs → get_or xs i d ≡ get_or xs i e
  any_default [] i d e h = absurd (omega (arith, h))
  any_default (x ∷ xs) zero d e h = refl
  any_default (x ∷ xs) (suc i) d e h = any_default xs i d e (omega (arith, h))

module _ {X : Type 0} (cmp : X → X → Ordering) where
  -- of two elements of an ascending list the first comes before the second
  pub rises : (xs : List X) → IsAscending cmp xs → (j k : ℕ) (d : X) → j < k → k < length xs → cmp (get_or xs j d) (get_or xs k d) ≡ Less
  rises [] a j k d h l = absurd (omega (arith, l))
  rises (x ∷ xs) a j zero d h l = absurd (omega (arith, h))
  rises (x ∷ xs) a zero (suc k) d h l = All-member (λ y. cmp x y ≡ Less) (get_or xs k d) xs a.0 (member_at xs k d (omega (arith, l)))
  rises (x ∷ xs) a (suc j) (suc k) d h l = rises xs a.1 j k d (omega (arith, h)) (omega (arith, l))

  -- what holds of an element holds of those before, where it does for each two
  pub parted : (p : X → Bool) (xs : List X) → IsAscending cmp xs → ((x y : X) → Member x xs → Member y xs → cmp x y ≡ Less → p y ≡ true → p x ≡ true) → IsPartitionedBy p xs
  parted p xs a f i j d h l t = by (cases_lt i j)
    where
      by : (i < j) ⊎ (j ≤ i) → p (get_or xs i d) ≡ true
      by (inl k) = f (get_or xs i d) (get_or xs j d) (member_at xs i d (omega (arith, k, l))) (member_at xs j d l) (rises xs a i j d k l) t
      by (inr k) = let e : j ≡ i = omega (arith, k, h) in subst (λ n. p (get_or xs n d) ≡ true) e t
