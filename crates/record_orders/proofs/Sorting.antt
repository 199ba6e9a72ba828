-- What a sort leaves of a list whose elements differ.
use Rattle.std.proofs.Common.{◌≡◌, false, List, Ordering, Equal}
use Rattle.std.specs.List.{IsDistinct}
use Rattle.std.specs.List.Sorted.{IsPermutation, IsSorted}
use Rattle.std.specs.Ordering.{eq_by_cmp}
use Rattle.std.specs.Cmp.{IsTotalOrder}
use Rattle.std.proofs.lemmas.Bool.{false_from_ne_true}
use Rattle.std.proofs.lemmas.List.Sorted.{Contains-permutation, IsPermutation-sym}
use Rattle.plane_graphs.specs.Ascending.{IsAscending, Member}
use Rattle.plane_graphs.proofs.Ascending.{to_member, from_member, ascending_unique}
use Rattle.plane_graphs.proofs.Sorting.{sorted_ascends}
pub use Rattle.plane_graphs.proofs.Sorting.{all_members}
use Rattle.integers.proofs.Tests.{is_equal}

module _ {X : Type 0} (cmp : X → X → Ordering) (o : IsTotalOrder cmp) where
  pub untied : (x y : X) → (cmp x y ≡ Equal → ⊥) → eq_by_cmp cmp x y ≡ false
  untied x y f = false_from_ne_true _ (λ t. f (is_equal (cmp x y) t))

  -- a sorted list is the ascending one that has the same elements
  pub sorted_is : (us vs ws : List X) → IsDistinct (eq_by_cmp cmp) us → IsPermutation us vs → IsSorted cmp vs → IsAscending cmp ws
      → ((x : X) → Member x us → Member x ws) → ((x : X) → Member x ws → Member x us) → vs ≡ ws
  sorted_is us vs ws d p s a there back =
      ascending_unique cmp o vs ws (sorted_ascends cmp o us vs d p s) a
      (λ x m. there x (to_member us x (Contains-permutation vs us x (IsPermutation-sym us vs p) (from_member vs x m))))
      (λ x m. to_member vs x (Contains-permutation us vs x p (from_member us x (back x m))))
