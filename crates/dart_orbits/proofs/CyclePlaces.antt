-- The places of cycles, one more of them.
use Rattle.std.proofs.Common.{◌≡◌, ℕ, ◌+◌, ◌<◌, ◌≤◌, arith, ap, ◌∙◌, List, [], ◌∷◌, ◌++◌, length, get_or, take}
use Rattle.slab_laws.specs.Skeleton.{Skeleton, IsPlaneSkeleton}
use Rattle.slab_laws.specs.Rows.{dart_list, dart_at, no_dart, dart_place, least_dart_of, lead_places, cycle_place, cycle_places}
use Rattle.dart_orbits.specs.CycleLinks.{cycle_leads, TellPlaces}
use Rattle.dart_orbits.proofs.DartCells.{dart_there}
use Rattle.dart_orbits.proofs.LeadsRead.{leads_length, lead_at}
use Rattle.dart_orbits.proofs.LeastDarts.{told_at, least_place}
use Rattle.dart_orbits.proofs.Pushed.{pushed, all_pushed}

module _ (g : Skeleton) (plane : IsPlaneSkeleton g) (leads : List ℕ) (all : leads ≡ lead_places g) where
  listed : (k : ℕ) → k < length leads → k < length (dart_list g)
  listed k l = let n = leads_length g in let m = ap length all in omega arith

  lead_is : (k : ℕ) → k < length leads → get_or leads k 0 ≡ dart_place g (least_dart_of g (dart_at g k))
  lead_is k l = ap (λ xs. get_or xs k 0) all ∙ lead_at g k 0 (listed k l)

  pub lead_below : (k : ℕ) → k < length leads → get_or leads k 0 < length leads
  lead_below k l =
      let a = lead_is k l in
      let b = least_place g plane (dart_at g k) (dart_there g plane k (listed k l)) in
      let n = leads_length g in
      let m = ap length all in
      omega arith

  pub cycle_pushed : (k u : ℕ) (table us vs : List ℕ) → k < length leads → TellPlaces (cycle_leads g) (length (cycle_leads g)) table → u ≡ get_or table (get_or leads k 0) 0 → us ≡ take k (cycle_places g) → vs ≡ us ++ (u ∷ []) → vs ≡ take (k + 1) (cycle_places g)
  unfolding cycle_places
  cycle_pushed k u table us vs l t e a b =
      pushed (cycle_place g) (dart_list g) k no_dart u us vs (listed k l)
      (e ∙ ap (λ n. get_or table n 0) (lead_is k l) ∙ told_at g plane (dart_at g k) table (dart_there g plane k (listed k l)) t)
      a b

  pub cycles_done : (k : ℕ) (us : List ℕ) → length leads ≤ k → us ≡ take k (cycle_places g) → us ≡ cycle_places g
  unfolding cycle_places
  cycles_done k us l a = all_pushed (cycle_place g) (dart_list g) k us (let n = leads_length g in let m = ap length all in omega arith) a
