-- Places in a list whose elements ascend, and in one whose elements a test tells apart.
use Rattle.std.proofs.Common.{◌≡◌, ℕ, ◌<◌, ◌≤◌, Bool, true, arith, sym, ap, ◌∙◌, subst, List, length, get_or, Contains, Ordering, Less, ⊎_elim}
use Rattle.std.specs.Prelude.{◌==◌}
use Rattle.std.specs.List.{position_or_len}
use Rattle.std.specs.Cmp.{IsTotalOrder}
use Rattle.std.proofs.lemmas.Cmp.{tied_itself}
use Rattle.std.proofs.lemmas.Bool.{eqb-true, eq-eqb, cases_lt}
use Rattle.std.proofs.lemmas.List.Sums.{position_or_len_is, passes_at_first}
use Rattle.plane_graphs.specs.Ascending.{IsAscending}
use Rattle.plane_graphs.proofs.Lists.{both_ways}
use Rattle.plane_graphs.proofs.Sorting.{rises}
use Rattle.slab_laws.specs.Skeleton.{same_point, same_edge}
use Rattle.slab_faces.proofs.ClassesLemmas.{IsExact}
use Rattle.slab_faces.proofs.Parity.{same_point_is, same_point_refl}
use Rattle.slab_faces.proofs.Searches.{first_there}
use Rattle.slab_faces.proofs.Slabs.{same_edge_is, same_edge_refl}
use Rattle.integers.proofs.Tests.{not_true}

-- ---- a list, and a test that only an element and itself pass
pub points_exact : IsExact same_point
points_exact = record { itself = same_point_refl; path = same_point_is }

pub edges_exact : IsExact same_edge
edges_exact = record { itself = same_edge_refl; path = same_edge_is }

module _ {X : Type 0} (same : X → X → Bool) (exact : IsExact same) (xs : List X) where
  pub place_is : (x : X) → Contains xs x → position_or_len (same x) xs < length xs
  place_is x m = first_there (same x) xs x m (exact.itself x)

  -- at its place stands the element
  pub found_at : (x d : X) → Contains xs x → get_or xs (position_or_len (same x) xs) d ≡ x
  found_at x d m = sym (exact.path x _ (passes_at_first (same x) xs d (place_is x m)))

  -- elements with one place are one
  pub same_place : (x y : X) → Contains xs x → Contains xs y → (position_or_len (same x) xs == position_or_len (same y) xs) ≡ same x y
  same_place x y m n =
      both_ways _ _
      (λ h. let e : x ≡ y = sym (found_at x x m) ∙ ap (λ k. get_or xs k x) (eqb-true _ _ h) ∙ found_at y x n in subst (λ z. same x z ≡ true) e (exact.itself x))
      (λ h. eq-eqb _ _ (ap (λ z. position_or_len (same z) xs) (exact.path x y h)))

-- ---- an ascending list
module _ {X : Type 0} (cmp : X → X → Ordering) (o : IsTotalOrder cmp) (same : X → X → Bool) (exact : IsExact same) where
  -- the place of what stands at k is k
  pub place_at : (xs : List X) → IsAscending cmp xs → (k : ℕ) (d : X) → k < length xs → position_or_len (same (get_or xs k d)) xs ≡ k
  place_at xs a k d l =
      position_or_len_is (same (get_or xs k d)) xs k d (omega arith)
      (λ j h. not_true _ (λ e.
      let i : get_or xs k d ≡ get_or xs j d = exact.path _ _ e in
      let u : cmp (get_or xs j d) (get_or xs j d) ≡ Less = subst (λ z. cmp (get_or xs j d) z ≡ Less) i (rises cmp xs a j k d h l) in
      let t = tied_itself o (get_or xs j d) in
      absurd (cc)))
      (λ _. exact.itself (get_or xs k d))

  -- what comes before has a lesser place
  pub place_before : (xs : List X) → IsAscending cmp xs → (x y : X) → Contains xs x → Contains xs y → cmp x y ≡ Less → position_or_len (same x) xs < position_or_len (same y) xs
  place_before xs a x y m n h =
      ⊎_elim (λ l. l) (λ l. absurd (later l)) (cases_lt (position_or_len (same x) xs) (position_or_len (same y) xs))
    where
      later : position_or_len (same y) xs ≤ position_or_len (same x) xs → ⊥
      later l =
          ⊎_elim
          (λ s. let u : cmp y x ≡ Less = subst (λ z. cmp z x ≡ Less) (found_at same exact xs y x n) (subst (λ z. cmp (get_or xs (position_or_len (same y) xs) x) z ≡ Less) (found_at same exact xs x x m) (rises cmp xs a _ _ x s (place_is same exact xs x m))) in
          let t = tied_itself o x in
          let v = o.trans x y x h u in
          absurd (cc))
          (λ s. let e : position_or_len (same y) xs ≡ position_or_len (same x) xs = omega arith in
          let i : y ≡ x = sym (found_at same exact xs y x n) ∙ ap (λ k. get_or xs k x) e ∙ found_at same exact xs x x m in
          let t = tied_itself o x in
          let u : cmp x x ≡ Less = subst (λ z. cmp x z ≡ Less) i h in
          absurd (cc))
          (cases_lt (position_or_len (same y) xs) (position_or_len (same x) xs))
