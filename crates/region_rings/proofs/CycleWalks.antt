-- The darts that a walk by `next` meets until it is back are those of its first dart's cycle, each once: so a sum along the walk is one over the cycle, and over the edges, each as often as the cycle has darts of it.
use Rattle.std.proofs.Common.{◌≡◌, ℕ, zero, suc, ◌+◌, ◌<◌, Bool, true, false, cond, arith, refl, sym, ap, ◌∙◌, subst, inl, inr, List, map}
use Rattle.std.specs.List.{Contains, filter, list_any, sum_by, count_by, range_with_len}
use Rattle.std.proofs.lemmas.Bool.{cases_lt, false_from_ne_true}
use Rattle.std.proofs.lemmas.List.FromFn.{sum_by-map-range_with_len_more}
use Rattle.std.proofs.lemmas.List.Sums.{sum_by-append}
use Rattle.plane_graphs.specs.Ascending.{Member}
use Rattle.plane_graphs.specs.Graph.{Edge}
use Rattle.plane_graphs.proofs.Ascending.{to_member, from_member}
use Rattle.plane_graphs.proofs.Lists.{in_filter, of_filter, in_map, of_map, any_in, any_out, both_ways}
use Rattle.slab_laws.specs.Cycles.{dart_labels, darts_on}
use Rattle.slab_laws.specs.Darts.{Dart, darts, ahead, back}
use Rattle.slab_laws.specs.Rotation.{same_dart, next}
use Rattle.slab_laws.specs.Rows.{least_dart_of}
use Rattle.slab_laws.specs.Skeleton.{Skeleton, IsPlaneSkeleton}
use Rattle.slab_faces.proofs.CyclesLemmas.{is_set, one_to_one, one_cycle}
use Rattle.slab_faces.proofs.Member.{member_in, in_member}
use Rattle.slab_faces.proofs.NextLemmas.{darts_exact, dart_in}
use Rattle.slab_faces.proofs.Shift.{same_sum, sum_by-map, tally}
use Rattle.slab_faces.proofs.Sums.{each, sum_by-same, sum_by-plus, sum_by-once}
use Rattle.dart_orbits.proofs.Ranges.{in_range, range_in}
use Rattle.face_changes.proofs.LinkedCycles.{labelled}
use Rattle.face_changes.proofs.OrbitSplices.{told}
use Rattle.polygon_sets.proofs.BorderGraphs.{sum_by-filter}

-- ---- numbers that a map tells apart
-- how many of the first n are at x
module _ (f : ℕ → Dart) (x : Dart) where
  abbrev how_many : ℕ → ℕ
  how_many n = count_by (same_dart x) (map f (range_with_len 0 n))

  one_more : (n : ℕ) → how_many (n + 1) ≡ how_many n + tally (same_dart x (f n))
  one_more n = sum_by-map-range_with_len_more (λ y. tally (same_dart x y)) f 0 n n (omega arith)

  not_met : (n : ℕ) → ((j : ℕ) → j < n → same_dart x (f j) ≡ false) → how_many n ≡ 0
  not_met zero h = refl
  not_met (suc n) h =
      let a : n + 1 ≡ suc n = omega arith in
      let b = one_more n in
      let c = not_met n (λ j l. h j (omega arith)) in
      let d : tally (same_dart x (f n)) ≡ 0 = ap tally (h n (omega arith)) in
      ap how_many (sym a) ∙ b ∙ (omega arith)

  met_once : (n i : ℕ) → i < n → same_dart x (f i) ≡ true → ((j : ℕ) → j < n → same_dart x (f j) ≡ true → j ≡ i) → how_many n ≡ 1
  met_once zero i l s h = absurd (omega arith)
  met_once (suc n) i l s h =
      let a : n + 1 ≡ suc n = omega arith in
      let b = one_more n in
      elim (cases_lt i n) [
        | inl k ↦
            let c = met_once n i k s (λ j m. h j (omega arith)) in
            let d : tally (same_dart x (f n)) ≡ 0 = ap tally (false_from_ne_true (same_dart x (f n)) (λ t. let q = h n (omega arith) t in absurd (omega arith))) in
            ap how_many (sym a) ∙ b ∙ (omega arith)
        | inr k ↦
            let q : i ≡ n = omega arith in
            let c = not_met n (λ j m. false_from_ne_true (same_dart x (f j)) (λ t. let r = h j (omega arith) t in absurd (omega arith))) in
            let d : tally (same_dart x (f n)) ≡ 1 = ap tally (subst (λ (z : ℕ). same_dart x (f z) ≡ true) q s) in
            ap how_many (sym a) ∙ b ∙ (omega arith)
      ]

-- ---- a walk
unfoldable pub walked : (Dart → Dart) → Dart → ℕ → Dart
walked f d zero = d
walked f d (suc i) = f (walked f d i)

pub walked_on : (f : Dart → Dart) (d : Dart) (i : ℕ) → walked f d (suc i) ≡ f (walked f d i)
unfolding walked
walked_on f d i = refl

pub walked_none : (f : Dart → Dart) (d : Dart) → walked f d 0 ≡ d
unfolding walked
walked_none f d = refl

module _ (g : Skeleton) (plane : IsPlaneSkeleton g) (d : Dart) (D : Contains g.edges d.edge) where
  abbrev at : ℕ → Dart
  at i = walked (next (darts g)) d i

  pub walk_stays : (i : ℕ) → Contains (darts g) (walked (next (darts g)) d i)
  unfolding walked
  walk_stays zero = member_in (darts g) d (dart_in g d.edge d.forward D)
  walk_stays (suc i) = (one_to_one g plane).inside (walked (next (darts g)) d i) (walk_stays i)

  pub same_lead : (i : ℕ) → least_dart_of g (walked (next (darts g)) d i) ≡ least_dart_of g d
  unfolding walked
  same_lead zero = refl
  same_lead (suc i) = sym (one_cycle g (walked (next (darts g)) d i) (in_member (darts g) (walked (next (darts g)) d i) (walk_stays i))) ∙ same_lead i

  -- it is back after n + 1 steps, and not before
  module _ (n : ℕ) (apart : (i j : ℕ) → i < n + 1 → j < n + 1 → walked (next (darts g)) d i ≡ walked (next (darts g)) d j → i ≡ j) (round : next (darts g) (walked (next (darts g)) d n) ≡ d) where
    abbrev met : List Dart
    met = map (λ i. walked (next (darts g)) d i) (range_with_len 0 (n + 1))

    abbrev is_met : Dart → Bool
    is_met z = list_any (λ x. same_dart z x) met

    met_in : (i : ℕ) → i < n + 1 → (z : Dart) → z ≡ at i → is_met z ≡ true
    met_in i l z e = any_in (λ x. same_dart z x) (at i) met (in_map at i (range_with_len 0 (n + 1)) (range_in (n + 1) i l)) (subst (λ (x : Dart). same_dart z x ≡ true) e (darts_exact.itself z))

    met_out : (z : Dart) → is_met z ≡ true → (i : ℕ) × (i < n + 1) × (z ≡ at i)
    met_out z h =
        let a = any_out (λ x. same_dart z x) met h in
        let b = of_map at a.0 (range_with_len 0 (n + 1)) a.1 in
        (b.0, in_range (n + 1) b.0 b.1, darts_exact.path z a.0 a.2 ∙ b.2)

    next_met : (z : Dart) (i : ℕ) → i < n + 1 → z ≡ at i → is_met (next (darts g) z) ≡ true
    next_met z i l e = elim (cases_lt i n) [
      | inl k ↦ met_in (suc i) (omega arith) (next (darts g) z) (ap (next (darts g)) e ∙ sym (walked_on (next (darts g)) d i))
      | inr k ↦ (let q : i ≡ n = omega arith in met_in 0 (omega arith) (next (darts g) z) (ap (next (darts g)) (e ∙ ap at q) ∙ round ∙ sym (walked_none (next (darts g)) d)))
    ]

    before_met : (z : Dart) → Contains (darts g) z → (i : ℕ) → i < n + 1 → next (darts g) z ≡ at i → is_met z ≡ true
    before_met z Z zero l e = met_in n (omega arith) z ((one_to_one g plane).one z (at n) Z (walk_stays n) (e ∙ walked_none (next (darts g)) d ∙ sym round))
    before_met z Z (suc i) l e = met_in i (omega arith) z ((one_to_one g plane).one z (at i) Z (walk_stays i) (e ∙ walked_on (next (darts g)) d i))

    along_next : (z : Dart) → Contains (darts g) z → is_met z ≡ is_met (next (darts g) z)
    along_next z Z =
        both_ways (is_met z) (is_met (next (darts g) z))
        (λ h. let a = met_out z h in next_met z a.0 a.1 a.2)
        (λ h. let a = met_out (next (darts g) z) h in before_met z Z a.0 a.1 a.2)

    abbrev on_cycle : Dart → Bool
    on_cycle z = same_dart (least_dart_of g z) (least_dart_of g d)

    cycle_met : (z : Dart) → on_cycle z ≡ true → is_met z ≡ true
    cycle_met z h =
        told (next (darts g)) (darts g) (least_dart_of g) (labelled g) is_met along_next z d (darts_exact.path (least_dart_of g z) (least_dart_of g d) h)
        ∙ met_in 0 (omega arith) d (sym (walked_none (next (darts g)) d))

    -- each dart of the cycle is met
    pub on_walk : (z : Dart) → least_dart_of g z ≡ least_dart_of g d → (i : ℕ) × (i < n + 1) × (z ≡ walked (next (darts g)) d i)
    on_walk z e = met_out z (cycle_met z (subst (λ (x : Dart). same_dart x (least_dart_of g d) ≡ true) (sym e) (darts_exact.itself (least_dart_of g d))))

    -- each once
    walk_once : (x : Dart) → Contains met x → count_by (same_dart x) met ≡ 1
    walk_once x X =
        let a = of_map at x (range_with_len 0 (n + 1)) (to_member met x X) in
        let l = in_range (n + 1) a.0 a.1 in
        met_once at x (n + 1) a.0 l (subst (λ (z : Dart). same_dart x z ≡ true) a.2 (darts_exact.itself x)) (λ j m t. apart j a.0 m l (sym (darts_exact.path x (at j) t) ∙ a.2))

    of_cycle : List Dart
    of_cycle = filter on_cycle (darts g)

    cycle_once : (x : Dart) → Contains of_cycle x → count_by (same_dart x) of_cycle ≡ 1
    unfolding of_cycle
    cycle_once x X =
        let a = of_filter on_cycle x (darts g) (to_member (filter on_cycle (darts g)) x X) in
        sum_by-filter on_cycle (λ z. cond (same_dart x z) 1 0) (darts g)
        ∙ sum_by-once on_cycle (same_dart x) x 1 (darts g) (λ z h. ap on_cycle (sym (darts_exact.path x z h))) ((is_set g plane).once x (from_member (darts g) x a.0))
        ∙ ap (λ b. cond {A = ℕ} b 1 0) a.1

    -- a sum along the walk
    pub cycle_sum : (F : Dart → ℕ) → sum_by F (map (λ i. walked (next (darts g)) d i) (range_with_len 0 (n + 1))) ≡ sum_by (λ z. cond (same_dart (least_dart_of g z) (least_dart_of g d)) (F z) 0) (darts g)
    unfolding of_cycle
    cycle_sum F =
        same_sum same_dart F met (filter on_cycle (darts g))
        (record { sound = darts_exact.path; self = darts_exact.itself; once = walk_once })
        (record { sound = darts_exact.path; self = darts_exact.itself; once = cycle_once })
        (λ x X.
        let a = of_map at x (range_with_len 0 (n + 1)) (to_member met x X) in
        from_member (filter on_cycle (darts g)) x (in_filter on_cycle x (darts g) (subst (λ (z : Dart). Member z (darts g)) (sym a.2) (to_member (darts g) (at a.0) (walk_stays a.0)))
        (subst (λ (l : Dart). same_dart l (least_dart_of g d) ≡ true) (sym (ap (least_dart_of g) a.2 ∙ same_lead a.0)) (darts_exact.itself (least_dart_of g d)))))
        (λ x X.
        let a = of_filter on_cycle x (darts g) (to_member (filter on_cycle (darts g)) x X) in
        let b = met_out x (cycle_met x a.1) in
        subst (Contains met) (sym b.2) (from_member met (at b.0) (in_map at b.0 (range_with_len 0 (n + 1)) (range_in (n + 1) b.0 b.1))))
        ∙ sum_by-filter on_cycle F (darts g)

-- ---- by edges
-- a sum over a cycle of what is the same for both darts of an edge
module _ (g : Skeleton) (lead : Dart) (r : Edge → Bool) (F : Dart → ℕ) (same : (z : Dart) → Contains g.edges z.edge → F z ≡ tally (r z.edge)) where
  deal : (a b u : Bool) (m n : ℕ) → m ≡ tally u → n ≡ tally u → cond a m 0 + cond b n 0 ≡ cond u (cond {A = ℕ} a 1 0 + cond b 1 0) 0
  deal a b true m n h k = (λ i. cond a (h i) 0 + cond b (k i) 0)
  deal true true false m n h k = (λ i. h i + k i)
  deal true false false m n h k = (λ i. h i + 0)
  deal false true false m n h k = (λ i. 0 + k i)
  deal false false false m n h k = refl

  abbrev term : Dart → ℕ
  term z = cond (same_dart (least_dart_of g z) lead) (F z) 0

  pub by_edges : sum_by (λ z. cond (same_dart (least_dart_of g z) lead) (F z) 0) (darts g) ≡ sum_by (λ e. cond (r e) (darts_on (dart_labels (darts g)) lead e) 0) g.edges
  unfolding darts_on
  by_edges =
      sum_by-append term (map ahead g.edges) (map back g.edges)
      ∙ (λ i. sum_by-map term ahead g.edges i + sum_by-map term back g.edges i)
      ∙ sym (sum_by-plus (λ e. term (ahead e)) (λ e. term (back e)) g.edges)
      ∙ sum_by-same (λ e. term (ahead e) + term (back e)) (λ e. cond (r e) (darts_on (dart_labels (darts g)) lead e) 0) g.edges (each (λ e. term (ahead e) + term (back e) ≡ cond (r e) (darts_on (dart_labels (darts g)) lead e) 0) g.edges (λ e E.
      deal (same_dart (least_dart_of g (ahead e)) lead) (same_dart (least_dart_of g (back e)) lead) (r e) (F (ahead e)) (F (back e)) (same (ahead e) E) (same (back e) E)))
