-- The places of the least darts of the cycles, and the place of each dart's cycle among them.
use Rattle.std.proofs.Common.{◌≡◌, ℕ, ◌+◌, ◌<◌, Bool, true, false, cond, arith, refl, sym, ap, ap₂, ◌∙◌, subst, inl, inr, List, [], ◌∷◌, ◌++◌, map, filter, take, length, get_or, Contains}
use Rattle.std.specs.Prelude.{◌==◌, not}
use Rattle.std.specs.List.{position_or_len}
use Rattle.std.specs.List.Sorted.{IsStrictlyIncreasing}
use Rattle.std.proofs.lemmas.Bool.{eqb-true, eq-eqb}
use Rattle.std.proofs.lemmas.List.{map-append, append-nil, length-map, get_or-map}
use Rattle.std.proofs.lemmas.List.Elements.{filter_more, Contains-get_or}
use Rattle.std.proofs.lemmas.List.Kept.{AllPairs-from_increasing}
use Rattle.std.proofs.lemmas.List.Sums.{position_or_len_is}
use Rattle.plane_graphs.specs.Ascending.{IsAscending, Member as In}
use Rattle.plane_graphs.proofs.Ascending.{ascending_is, to_member, from_member}
use Rattle.plane_graphs.proofs.Lists.{both_ways, of_filter, in_filter, in_map, of_map, IsAscending-filter}
use Rattle.slab_laws.specs.Skeleton.{Skeleton, IsPlaneSkeleton}
use Rattle.slab_laws.specs.Darts.{Dart, darts}
use Rattle.slab_laws.specs.Rotation.{same_dart, dart_cmp}
use Rattle.slab_laws.specs.Cycles.{leads}
use Rattle.slab_laws.specs.Rows.{dart_list, dart_at, no_dart, dart_place, least_dart_of, lead_list, cycle_place}
use Rattle.slab_faces.proofs.NextLemmas.{darts_exact}
use Rattle.plane_graphs.proofs.Sorting.{rises, any_default}
use Rattle.slab_faces.proofs.Places.{place_before}
use Rattle.slab_faces.proofs.DartOrder.{dart_cmp_total, tied_darts, list_ascends, lead_lead}
use Rattle.dart_orbits.specs.CycleLinks.{cycle_leads, AreBelow, TellPlaces}
use Rattle.dart_orbits.proofs.Placed.{place_within}
use Rattle.dart_orbits.proofs.DartCells.{listed_in, listed_out, lead_there, same_dart_place}
use Rattle.dart_orbits.proofs.Listed.{place_of_dart}
use Rattle.integers.proofs.Tests.{not_true}

-- ---- lists
module _ {X : Type 0} where
  pub place_in_map : (p : ℕ → Bool) (q : X → Bool) (f : X → ℕ) (xs : List X) → ((x : X) → In x xs → p (f x) ≡ q x) → position_or_len p (map f xs) ≡ position_or_len q xs
  place_in_map p q f [] h = refl
  place_in_map p q f (x ∷ xs) h = ap₂ (λ b n. cond (not b) (1 + n) 0) (h x (inl refl)) (place_in_map p q f xs (λ y m. h y (inr m)))

-- ---- numbers that rise
-- a number stands where it does, and nowhere else
pub stands_once : (xs : List ℕ) → IsStrictlyIncreasing xs → (i : ℕ) → i < length xs → i ≡ position_or_len (λ k. get_or xs i 0 == k) xs
stands_once xs rising i h =
    sym (position_or_len_is (λ k. get_or xs i 0 == k) xs i 0 (omega arith)
    (λ k l. not_true _ (λ e. let a = AllPairs-from_increasing xs rising k i 0 l h in let c : get_or xs i 0 ≡ get_or xs k 0 = eqb-true _ _ e in absurd (omega arith)))
    (λ _. eq-eqb _ _ refl))

-- ---- least darts
-- the dart is the least of its cycle
abbrev pub is_least : Skeleton → Dart → Bool
is_least g d = same_dart d (least_dart_of g d)

module _ (g : Skeleton) (plane : IsPlaneSkeleton g) where
  -- they are the listed darts that lead themselves
  pub least_listed : filter (is_least g) (dart_list g) ≡ lead_list g
  unfolding leads
  least_listed =
      ascending_is dart_cmp dart_cmp_total (filter (is_least g) (darts g)) (filter (is_least g) (dart_list g))
      (λ x y m n e. tied_darts g plane x y (of_filter (is_least g) x (darts g) m).0 (of_filter (is_least g) y (darts g) n).0 e)
      (IsAscending-filter dart_cmp (is_least g) (dart_list g) (list_ascends g plane))
      (λ x m. let r = of_filter (is_least g) x (dart_list g) m in in_filter (is_least g) x (darts g) (to_member (darts g) x (listed_out g plane x (from_member (dart_list g) x r.0))) r.1)
      (λ x m. let r = of_filter (is_least g) x (darts g) m in in_filter (is_least g) x (dart_list g) (to_member (dart_list g) x (listed_in g plane x (from_member (darts g) x r.0))) r.1)

  pub least_there : (d : Dart) → In d (lead_list g) → Contains (dart_list g) d
  least_there d m = from_member (dart_list g) d (of_filter (is_least g) d (dart_list g) (subst (In d) (sym least_listed) m)).0

  -- their places rise
  pub places_rise : IsStrictlyIncreasing (map (dart_place g) (lead_list g))
  places_rise k h =
      let n = length-map (lead_list g) (dart_place g) in
      let asc : IsAscending dart_cmp (lead_list g) = subst (IsAscending dart_cmp) least_listed (IsAscending-filter dart_cmp (is_least g) (dart_list g) (list_ascends g plane)) in
      let at : (j : ℕ) → j < length (lead_list g) → Contains (dart_list g) (get_or (lead_list g) j no_dart) = λ j l. least_there _ (to_member (lead_list g) _ (Contains-get_or (lead_list g) j no_dart l)) in
      let up = place_before dart_cmp dart_cmp_total same_dart darts_exact (dart_list g) (list_ascends g plane) (get_or (lead_list g) k no_dart) (get_or (lead_list g) (k + 1) no_dart) (at k (omega arith)) (at (k + 1) (omega arith)) (rises dart_cmp (lead_list g) asc k (k + 1) no_dart (omega arith) (omega arith)) in
      let a = get_or-map (dart_place g) (lead_list g) k no_dart 0 (omega arith) in
      let b = get_or-map (dart_place g) (lead_list g) (k + 1) no_dart 0 (omega arith) in
      omega arith

  -- ---- one more dart
  module _ (i : ℕ) (h : i < length (dart_list g)) (items : List ℕ) (so_far : items ≡ map (dart_place g) (filter (is_least g) (take i (dart_list g)))) where
    next_kept : (b : Bool) → is_least g (dart_at g i) ≡ b → map (dart_place g) (filter (is_least g) (take (i + 1) (dart_list g))) ≡ items ++ map (dart_place g) (cond b (dart_at g i ∷ []) [])
    next_kept b e =
        ap (map (dart_place g)) (filter_more (is_least g) (dart_list g) i no_dart h ∙ ap (λ t. filter (is_least g) (take i (dart_list g)) ++ cond t (dart_at g i ∷ []) []) e)
        ∙ map-append (dart_place g) (filter (is_least g) (take i (dart_list g))) (cond b (dart_at g i ∷ []) [])
        ∙ ap (λ xs. xs ++ map (dart_place g) (cond b (dart_at g i ∷ []) [])) (sym so_far)

    swapped : (x y : Dart) → same_dart x y ≡ same_dart y x
    swapped x y = both_ways _ _ (λ e. back x y e) (λ e. back y x e)
      where
        back : (x y : Dart) → same_dart x y ≡ true → same_dart y x ≡ true
        back x y e = subst (λ z. same_dart z x ≡ true) (darts_exact.path x y e) (darts_exact.itself x)

    pub more_least : same_dart (least_dart_of g (dart_at g i)) (dart_at g i) ≡ true → items ++ i ∷ [] ≡ map (dart_place g) (filter (is_least g) (take (i + 1) (dart_list g)))
    more_least e = ap (λ n. items ++ n ∷ []) (sym (place_of_dart g plane i h)) ∙ sym (next_kept true (swapped _ _ ∙ e))

    pub no_more : same_dart (least_dart_of g (dart_at g i)) (dart_at g i) ≡ false → items ≡ map (dart_place g) (filter (is_least g) (take (i + 1) (dart_list g)))
    no_more e = sym (append-nil items) ∙ sym (next_kept false (swapped _ _ ∙ e))

  -- ---- cycles by their places
  pub leads_below : (n : ℕ) → n ≡ length (dart_list g) → AreBelow n (cycle_leads g)
  leads_below n e i h =
      let w = of_map (dart_place g) (get_or (cycle_leads g) i 0) (lead_list g) (to_member (cycle_leads g) _ (Contains-get_or (cycle_leads g) i 0 h)) in
      let l = place_within same_dart darts_exact (dart_list g) w.0 (to_member (dart_list g) w.0 (least_there w.0 w.1)) in
      let is = w.2 in
      omega arith

  pub least_place : (d : Dart) → Contains (dart_list g) d → dart_place g (least_dart_of g d) < length (dart_list g)
  least_place d h = place_within same_dart darts_exact (dart_list g) (least_dart_of g d) (to_member (dart_list g) (least_dart_of g d) (lead_there g plane d h))

  lead_listed : (d : Dart) → Contains (dart_list g) d → In (least_dart_of g d) (lead_list g)
  lead_listed d h =
      subst (In (least_dart_of g d)) least_listed
      (in_filter (is_least g) (least_dart_of g d) (dart_list g) (to_member (dart_list g) (least_dart_of g d) (lead_there g plane d h)) (ap (same_dart (least_dart_of g d)) (lead_lead g d) ∙ darts_exact.itself (least_dart_of g d)))

  cycle_told : (d : Dart) → Contains (dart_list g) d → position_or_len (λ k. dart_place g (least_dart_of g d) == k) (cycle_leads g) ≡ cycle_place g d
  cycle_told d h =
      place_in_map (λ k. dart_place g (least_dart_of g d) == k) (same_dart (least_dart_of g d)) (dart_place g) (lead_list g)
      (λ y n. same_dart_place g plane (least_dart_of g d) y (lead_there g plane d h) (least_there y n))

  -- what a table tells at a dart's lead
  pub told_at : (d : Dart) (places : List ℕ) → Contains (dart_list g) d → TellPlaces (cycle_leads g) (length (cycle_leads g)) places → get_or places (dart_place g (least_dart_of g d)) 0 ≡ cycle_place g d
  told_at d places h t =
      let x = dart_place g (least_dart_of g d) in
      let w = from_member (cycle_leads g) x (in_map (dart_place g) (least_dart_of g d) (lead_list g) (lead_listed d h)) in
      let is : get_or (cycle_leads g) w.0 0 ≡ x = any_default (cycle_leads g) w.0 0 x w.1 ∙ w.2 in
      subst (λ y. get_or places y 0 ≡ position_or_len (λ k. y == k) (cycle_leads g)) is (t w.0 w.1) ∙ cycle_told d h
