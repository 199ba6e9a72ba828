-- The places of leads, read at a place.
use Rattle.std.proofs.Common.{◌≡◌, ℕ, ◌<◌, true, false, sym, ap, ◌∙◌, List, length, get_or}
use Rattle.std.specs.Prelude.{◌==◌}
use Rattle.std.proofs.lemmas.List.{get_or-map, length-map}
use Rattle.std.proofs.lemmas.Bool.{eqb-true, eq-eqb}
use Rattle.integers.proofs.Tests.{not_true}
use Rattle.slab_laws.specs.Skeleton.{Skeleton, IsPlaneSkeleton}
use Rattle.slab_laws.specs.Rows.{dart_list, dart_at, no_dart, dart_place, least_dart_of, lead_places}
use Rattle.slab_laws.specs.Rotation.{same_dart}
use Rattle.dart_orbits.proofs.DartCells.{dart_there, lead_there, same_dart_place}
use Rattle.dart_orbits.proofs.Listed.{place_of_dart}

module _ (g : Skeleton) where
  pub leads_length : length (lead_places g) ≡ length (dart_list g)
  unfolding lead_places
  leads_length = length-map (dart_list g) (λ d. dart_place g (least_dart_of g d))

  pub lead_at : (k n : ℕ) → k < length (dart_list g) → get_or (lead_places g) k n ≡ dart_place g (least_dart_of g (dart_at g k))
  unfolding lead_places
  lead_at k n h = get_or-map (λ d. dart_place g (least_dart_of g d)) (dart_list g) k no_dart n h

-- the cycle of the dart at one place is that of the least dart at another
module _ (g : Skeleton) (plane : IsPlaneSkeleton g) (leads : List ℕ) (all : leads ≡ lead_places g) (k l : ℕ) (h : k < length (dart_list g)) (m : l < length (dart_list g)) where
  pub lead_is : (get_or leads k 0 == l) ≡ same_dart (least_dart_of g (dart_at g k)) (dart_at g l)
  lead_is =
      (λ i. (ap (λ (xs : List ℕ). get_or xs k 0) all ∙ lead_at g k 0 h) i == sym (place_of_dart g plane l m) i)
      ∙ same_dart_place g plane (least_dart_of g (dart_at g k)) (dart_at g l) (lead_there g plane (dart_at g k) (dart_there g plane k h)) (dart_there g plane l m)

  pub is_on_cycle : get_or leads k 0 ≡ l → same_dart (least_dart_of g (dart_at g k)) (dart_at g l) ≡ true
  is_on_cycle e = sym lead_is ∙ eq-eqb _ _ e

  pub not_on_cycle : (get_or leads k 0 ≡ l → ⊥) → same_dart (least_dart_of g (dart_at g k)) (dart_at g l) ≡ false
  not_on_cycle n = not_true _ (λ e. n (eqb-true _ _ (lead_is ∙ e)))
