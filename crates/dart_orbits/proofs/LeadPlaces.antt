-- The places of the least darts of cycles.
use Rattle.std.proofs.Common.{◌≡◌, ℕ, zero, suc, ◌+◌, ◌<◌, ◌≤◌, List, map, length, get_or, is_lt, is_gt, sym, ap, ◌∙◌, subst, arith, inl, inr}
use Rattle.std.specs.List.{range_with_len}
use Rattle.std.proofs.lemmas.Bool.{cases_order, lt-ltb, le-ltb}
use Rattle.std.proofs.lemmas.Cmp.{tied_itself}
use Rattle.std.proofs.lemmas.List.{get_or-map, length-map, ext_get_or}
use Rattle.slab_laws.specs.declared.classes.Link.{Link}
use Rattle.slab_laws.specs.Skeleton.{Skeleton, IsPlaneSkeleton}
use Rattle.slab_laws.specs.Darts.{darts}
use Rattle.slab_laws.specs.Cycles.{dart_labels}
use Rattle.slab_laws.specs.Rotation.{dart_cmp, dart_below, same_dart, next}
use Rattle.slab_laws.specs.Rows.{dart_list, no_dart, dart_at, dart_place, least_dart_of, next_places, lead_places}
use Rattle.slab_faces.proofs.Member.{Member, map_in, map_out}
use Rattle.slab_faces.proofs.Searches.{in_range as in_numbers}
use Rattle.slab_faces.proofs.NextLemmas.{darts_exact, dart_in, dart_out, next_from}
use Rattle.dart_orbits.specs.LeastNumbers.{is_less}
use Rattle.dart_orbits.proofs.LeastTransport.{StandsFor, transported, least_number, least_number-le}
use Rattle.dart_orbits.specs.CycleLinks.{link_at, place_links}
use Rattle.slab_faces.proofs.DartOrder.{dart_cmp_total, less_greater, dart_below_order, list_ascends, link}
use Rattle.plane_graphs.proofs.Sorting.{rises as ascends}
use Rattle.dart_orbits.proofs.Listed.{dart_there, place_of_dart, dart_within, dart_at_place}

module _ (g : Skeleton) (plane : IsPlaneSkeleton g) (nexts : List ℕ) (e : nexts ≡ next_places g) where
  pub nexts_length : length nexts ≡ length (dart_list g)
  unfolding next_places
  nexts_length = ap length e ∙ length-map (dart_list g) (λ d. dart_place g (next (darts g) d))

  pub next_at : (k : ℕ) → k < length (dart_list g) → get_or nexts k 0 ≡ dart_place g (next (darts g) (dart_at g k))
  unfolding next_places
  next_at k l = ap (λ ns. get_or ns k 0) e ∙ get_or-map (λ d. dart_place g (next (darts g) d)) (dart_list g) k no_dart 0 l

  pub next_within : (k : ℕ) → k < length (dart_list g) → get_or nexts k 0 < length (dart_list g)
  next_within k l =
      let a = next_at k l in
      let b = dart_within g plane (next (darts g) (dart_at g k)) (next_from g (dart_at g k) plane (dart_there g plane k l)).in' in
      omega arith

  dart_after : (k : ℕ) → k < length (dart_list g) → dart_at g (get_or nexts k 0) ≡ next (darts g) (dart_at g k)
  dart_after k l = ap (dart_at g) (next_at k l) ∙ dart_at_place g plane (next (darts g) (dart_at g k)) (next_from g (dart_at g k) plane (dart_there g plane k l)).in'

  rises : (j k : ℕ) → j < length (dart_list g) → k < length (dart_list g) → dart_below (dart_at g j) (dart_at g k) ≡ is_less j k
  rises j k J K =
      elim (cases_order j k) [
        | inl same ↦ ap is_lt (ap (λ i. dart_cmp (dart_at g j) (dart_at g i)) (sym same) ∙ tied_itself dart_cmp_total (dart_at g j)) ∙ sym (le-ltb j k (omega arith))
        | inr (inl l) ↦ ap is_lt (ascends dart_cmp (dart_list g) (list_ascends g plane) j k no_dart l K) ∙ sym (lt-ltb j k l)
        | inr (inr l) ↦ less_greater dart_cmp dart_cmp_total (dart_at g j) (dart_at g k) ∙ ap is_gt (ascends dart_cmp (dart_list g) (list_ascends g plane) k j no_dart l J) ∙ sym (le-ltb j k (omega arith))
      ]

  -- ---- links
  in_range : (a n k : ℕ) → Member (range_with_len a n) k → (a ≤ k) × (k < a + n)
  in_range a zero k h = absurd h
  in_range a (suc n) k (inl p) = (omega arith, omega arith)
  in_range a (suc n) k (inr h) = let r = in_range (a + 1) n k h in (omega (arith, r.0), omega (arith, r.1))

  pub link_out : (l : Link ℕ) → Member (place_links nexts) l → (k : ℕ) × (k < length (dart_list g)) × (link_at nexts k ≡ l)
  link_out l h =
      let w = map_out (link_at nexts) (range_with_len 0 (length nexts)) l h in
      let r = in_range 0 (length nexts) w.0 w.1 in
      (w.0, (let n = nexts_length in omega (arith, r.1)), w.2)

  link_in : (k : ℕ) → k < length (dart_list g) → Member (place_links nexts) (link_at nexts k)
  link_in k l = map_in (link_at nexts) (range_with_len 0 (length nexts)) k (in_numbers 0 (length nexts) k (omega arith) (let n = nexts_length in omega arith))

  stands : StandsFor dart_below (dart_at g) (length (dart_list g)) (place_links nexts) (map (link g) (darts g))
  stands = record {
    rises = rises;
    inside = λ l h. let w = link_out l h in subst (λ m. (m.one < length (dart_list g)) × (m.other < length (dart_list g))) w.2 (w.1, next_within w.0 w.1);
    to = λ l h.
        let w = link_out l h in
        let d = dart_at g w.0 in
        let E = dart_there g plane w.0 w.1 in
        subst (λ m. Member (map (link g) (darts g)) (record { one = dart_at g m.one; other = dart_at g m.other })) w.2
        (subst (λ x. Member (map (link g) (darts g)) (record { one = d; other = x })) (sym (dart_after w.0 w.1)) (map_in (link g) (darts g) d (dart_in g d.edge d.forward E)));
    from = λ m h.
        let w = map_out (link g) (darts g) m h in
        let d = w.0 in
        let E = dart_out g d w.1 in
        let k = dart_place g d in
        let l = dart_within g plane d E in
        let p = dart_at_place g plane d E in
        (link_at nexts k, link_in k l, p ∙ ap (λ x. x.one) w.2, dart_after k l ∙ ap (next (darts g)) p ∙ ap (λ x. x.other) w.2);
  }

  lead_is : (k : ℕ) → k < length (dart_list g) → dart_at g (least_number (place_links nexts) k) ≡ least_dart_of g (dart_at g k)
  unfolding dart_labels
  lead_is k l = transported same_dart dart_below darts_exact dart_below_order (dart_at g) (length (dart_list g)) (place_links nexts) (map (link g) (darts g)) stands k l

  pub leads_are : (vs : List ℕ) → length vs ≡ length nexts → ((k : ℕ) → k < length nexts → get_or vs k 0 ≡ least_number (place_links nexts) k) → vs ≡ lead_places g
  unfolding lead_places
  leads_are vs n f =
      let m = nexts_length in
      let p = length-map (dart_list g) (λ d. dart_place g (least_dart_of g d)) in
      ext_get_or 0 vs (map (λ d. dart_place g (least_dart_of g d)) (dart_list g)) (n ∙ m ∙ sym p)
      (λ k l. let K : k < length (dart_list g) = omega arith in
      let low = least_number-le (place_links nexts) k in
      f k (omega arith)
      ∙ sym (place_of_dart g plane (least_number (place_links nexts) k) (omega arith))
      ∙ ap (dart_place g) (lead_is k K)
      ∙ sym (get_or-map (λ d. dart_place g (least_dart_of g d)) (dart_list g) k no_dart 0 K))
