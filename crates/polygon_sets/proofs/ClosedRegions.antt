-- The border of a set of faces is closed.
use Rattle.std.proofs.Common.{◌≡◌, ◌≢◌, ℕ, ◌<◌, Bool, true, false, cond, not, ◌&&◌, arith, refl, sym, ap, ◌∙◌, subst, inl, inr, List, length, map, get_or}
use Rattle.std.specs.List.{Contains, filter}
use Rattle.std.proofs.lemmas.Bool.{false≢true, and_parts, cases_Bool}
use Rattle.std.proofs.lemmas.List.{length-map, get_or-map}
use Rattle.std.proofs.lemmas.List.Elements.{Contains-get_or}
use Rattle.exact_plane.specs.Point.{Point}
use Rattle.plane_graphs.specs.Ascending.{Member, IsAscending}
use Rattle.plane_graphs.specs.Graph.{Edge}
use Rattle.plane_graphs.proofs.Ascending.{to_member, from_member}
use Rattle.plane_graphs.proofs.Lists.{not_out, in_filter, of_filter, in_map, of_map, IsAscending-filter}
use Rattle.plane_graphs.proofs.Sorting.{any_default}
use Rattle.slab_laws.specs.declared.slab_cell.SlabCell.{SlabCell}
use Rattle.slab_laws.specs.Cycles.{left_of_dart}
use Rattle.slab_laws.specs.Darts.{Dart, source, target, darts}
use Rattle.slab_laws.specs.Meets.{SameFace}
use Rattle.slab_laws.specs.Rotation.{dart_cmp, twin, earlier, OutOf}
use Rattle.slab_laws.specs.Rows.{dart_list, no_dart}
use Rattle.slab_laws.specs.Skeleton.{Skeleton, same_point, IsPlaneSkeleton}
use Rattle.slab_faces.proofs.DartOrder.{dart_cmp_total, list_ascends, listed_in, listed_out, one_dart as one_end_dart}
use Rattle.slab_faces.proofs.Member.{in_member, member_in}
use Rattle.slab_faces.proofs.NextLemmas.{dart_in, dart_out}
use Rattle.slab_faces.proofs.Parity.{same_point_is, same_point_refl}
use Rattle.rotation_order.specs.EdgeParts.{IsForwardEdge}
use Rattle.rotation_order.specs.RingOrder.{sooner_by}
use Rattle.rotation_order.proofs.RingOrders.{round_by}
use Rattle.rotation_order.proofs.RingTurned.{strict_at}
use Rattle.rotation_order.proofs.Turning.{soon}
use Rattle.sound_views.proofs.RoundTurned.{twin_twice}
use Rattle.dart_orbits.proofs.Placed.{AreApart, one_place, ascending_apart}
use Rattle.polygon_sets.specs.ClosedBorders.{no_dart as no_ends, dart_at, way_before, is_sooner, IsNextSide, end_of, IsOneWay, IsClosedBorder}
use Rattle.polygon_sets.specs.Regions.{dart_ends}
use Rattle.polygon_sets.proofs.BorderSets.{is_side}
use Rattle.polygon_sets.proofs.WaysRound.{way_order}
use Rattle.polygon_sets.proofs.Onward.{Differs, IsOnward, first_onward}

-- a dart, or its twin
turned_by : Dart → Bool → Dart
turned_by d o = cond o d (twin d)

module _ (g : Skeleton) (inn : SlabCell → Bool) (plane : IsPlaneSkeleton g) (one_face : (c d : SlabCell) → SameFace g c d → inn c ≡ inn d) where
  abbrev bounds : List Dart
  bounds = filter (is_side inn g) (dart_list g)

  -- ---- the darts of the border
  -- it is within on the left alone
  abbrev pub IsBound : Dart → Type 0
  IsBound d = Contains g.edges d.edge × (inn (left_of_dart g d) ≡ true) × (inn (left_of_dart g (twin d)) ≡ false)

  pub bound_out : (d : Dart) → Member d (filter (is_side inn g) (dart_list g)) → IsBound d
  bound_out d m =
      let a = of_filter (is_side inn g) d (dart_list g) m in
      let E = dart_out g d (in_member (darts g) d (from_member (darts g) d (listed_out g plane d a.0))) in
      let p = and_parts (inn (left_of_dart g d)) (not (inn (left_of_dart g (twin d)))) a.1 in
      (E, p.0, not_out (inn (left_of_dart g (twin d))) p.1)

  pub bound_in : (d : Dart) → IsBound d → Member d (filter (is_side inn g) (dart_list g))
  bound_in d (E, h, k) =
      let L = listed_in g plane d (to_member (darts g) d (member_in (darts g) d (dart_in g d.edge d.forward E))) in
      in_filter (is_side inn g) d (dart_list g) L (λ i. h i && not (k i))

  ascends : IsAscending dart_cmp bounds
  ascends = IsAscending-filter dart_cmp (is_side inn g) (dart_list g) (list_ascends g plane)

  apart : AreApart bounds
  apart = ascending_apart dart_cmp dart_cmp_total bounds ascends

  -- ---- by places
  abbrev ends : List (Point × Point)
  ends = map dart_ends bounds

  abbrev pick : ℕ → Dart
  pick k = get_or bounds k no_dart

  counted : length ends ≡ length bounds
  counted = length-map bounds dart_ends

  picked : (k : ℕ) → k < length bounds → dart_at ends k ≡ dart_ends (pick k)
  picked k l = get_or-map dart_ends bounds k no_dart no_ends l

  bound_at : (k : ℕ) → k < length bounds → IsBound (pick k)
  bound_at k l = bound_out (pick k) (to_member bounds (pick k) (Contains-get_or bounds k no_dart l))

  place_of : (d : Dart) → IsBound d → (k : ℕ) × (k < length bounds) × (pick k ≡ d)
  place_of d h = let c = from_member bounds d (bound_in d h) in (c.0, c.1, any_default bounds c.0 no_dart d c.1 ∙ c.2)

  -- ---- ends of darts
  bare_edge : (e : Edge) → Contains g.edges e → IsForwardEdge e
  bare_edge e E = let W = plane.proper_edge e E in record { low_weight = W.0; high_weight = W.1; forward = plane.forward e E; upright = plane.upright e E }

  from_back : (d : Dart) → target (twin d) ≡ source d
  from_back d = ap source (twin_twice d)

  within_again : (d : Dart) → IsBound d → inn (left_of_dart g (twin (twin d))) ≡ true
  within_again d h = ap (λ (z : Dart). inn (left_of_dart g z)) (twin_twice d) ∙ h.1

  leaves : (d : Dart) (o : Bool) → IsBound d → OutOf g (end_of (dart_ends d) o).0 (turned_by d o)
  unfolding turned_by
  leaves d true h = record { in' = h.0; at = refl }
  leaves d false h = record { in' = h.0; at = refl }

  leads_to : (d : Dart) (o : Bool) → target (turned_by d o) ≡ (end_of (dart_ends d) o).1
  unfolding turned_by
  leads_to d true = refl
  leads_to d false = from_back d

  -- one comes before another as the points to which they lead do
  order_at : (v : Point) (c d : Dart) → OutOf g v c → OutOf g v d → (p q : Point) → target c ≡ p → target d ≡ q → earlier c d ≡ way_before v p q
  order_at v c d C D p q s t = way_order c d (bare_edge c.edge C.in') (bare_edge d.edge D.in') v C.at D.at ∙ (λ i. way_before v (s i) (t i))

  -- ---- the dart that follows
  module _ (d e : Dart) (D : IsBound d) (o : IsOnward g inn (target d) (twin d) e) where
    back_out : OutOf g (target d) (twin d)
    back_out = record { in' = D.0; at = refl }

    met_first : (c : Dart) → OutOf g (target d) c → Differs g inn c → (p : Point) → target c ≡ p → p ≢ target e → is_sooner (target d) (source d) (target e) p ≡ true
    met_first c C h p t ne =
        let v = target d in
        let x = order_at v (twin d) e back_out o.out (source d) (target e) (from_back d) refl in
        let y = order_at v (twin d) c back_out C (source d) p (from_back d) t in
        let z = order_at v e c o.out C (target e) p refl t in
        (λ i. soon (sym x i) (sym y i) (sym z i)) ∙ o.first c C h (λ q. ne (sym t ∙ ap target q))

    pub next_side : IsNextSide (map dart_ends (filter (is_side inn g) (dart_list g))) (dart_ends d) (dart_ends e)
    next_side = record {
      joined = sym o.out.at;
      first = λ p end ne. elim end [
        | inl m ↦ (
            let w = of_map dart_ends (target d, p) bounds (to_member ends (target d, p) m) in
            let c = w.0 in
            let B = bound_out c w.1 in
            met_first c (record { in' = B.0; at = sym (ap (λ (z : Point × Point). z.0) w.2) }) (inl (B.1, B.2)) p (sym (ap (λ (z : Point × Point). z.1) w.2)) ne)
        | inr m ↦ (
            let w = of_map dart_ends (p, target d) bounds (to_member ends (p, target d) m) in
            let c = w.0 in
            let B = bound_out c w.1 in
            met_first (twin c) (record { in' = B.0; at = sym (ap (λ (z : Point × Point). z.1) w.2) }) (inr (B.2, within_again c B)) p (from_back c ∙ sym (ap (λ (z : Point × Point). z.0) w.2)) ne)
      ];
    }

  -- and it is the only next side
  module _ (d e f : Dart) (D : IsBound d) (o : IsOnward g inn (target d) (twin d) f) (E : IsBound e) (h : IsNextSide (map dart_ends (filter (is_side inn g) (dart_list g))) (dart_ends d) (dart_ends e)) where
    e_out : OutOf g (target d) e
    e_out = record { in' = E.0; at = sym h.joined }

    f_member : Contains (map dart_ends (filter (is_side inn g) (dart_list g))) (target d, target f)
    f_member = subst (λ (z : Point). Contains (map dart_ends (filter (is_side inn g) (dart_list g))) (z, target f)) o.out.at (from_member ends (dart_ends f) (in_map dart_ends f bounds (bound_in f (o.out.in', o.left, o.right))))

    other_target : target f ≢ target e → ⊥
    other_target ne =
        let v = target d in
        let D' : OutOf g v (twin d) = record { in' = D.0; at = refl } in
        let x = order_at v (twin d) e D' e_out (source d) (target e) (from_back d) refl in
        let y = order_at v (twin d) f D' o.out (source d) (target f) (from_back d) refl in
        let z = order_at v e f e_out o.out (target e) (target f) refl refl in
        let first : sooner_by earlier (twin d) e f ≡ true = (λ i. soon (x i) (y i) (z i)) ∙ h.first (target f) (inl f_member) ne in
        let last : sooner_by earlier (twin d) f e ≡ true = o.first e e_out (inl (E.1, E.2)) (λ q. ne (sym (ap target q))) in
        (round_by earlier (OutOf g v) (strict_at g v (twin d) plane D')).apart (twin d) e f D' e_out o.out first last

    pub only_next : e ≡ f
    only_next = elim (cases_Bool (same_point (target f) (target e))) [
      | inl t ↦ one_end_dart g plane e f E.0 o.out.in' (sym h.joined ∙ sym o.out.at) (sym (same_point_is (target f) (target e) t))
      | inr t ↦ absurd (other_target (λ q. false≢true (sym t ∙ ap (λ (z : Point). same_point z (target e)) q ∙ same_point_refl (target e))))
    ]

  followed : (k : ℕ) → k < length bounds → (j : ℕ) × (j < length ends) × IsNextSide ends (dart_at ends k) (dart_at ends j)
  followed k l =
      let d = pick k in
      let B = bound_at k l in
      let w = first_onward g plane (target d) (twin d) (record { in' = B.0; at = refl }) inn one_face B.2 (within_again d B) in
      let e = w.0 in
      let o = w.1 in
      let j = place_of e (o.out.in', o.left, o.right) in
      let n = counted in
      let q : dart_at ends j.0 ≡ dart_ends e = picked j.0 j.1 ∙ ap dart_ends j.2 in (
        j.0,
        (let m = j.1 in omega arith),
        subst (λ (z : Point × Point). IsNextSide ends z (dart_at ends j.0)) (sym (picked k l)) (subst (IsNextSide ends (dart_ends d)) (sym q) (next_side d e B o)),
      )

  -- ---- no two ends in one direction
  clash : {A : Type 0} (c d : Dart) → c ≡ d → inn (left_of_dart g c) ≡ true → inn (left_of_dart g d) ≡ false → A
  clash c d e h k = absurd (false≢true (sym k ∙ ap (λ (z : Dart). inn (left_of_dart g z)) (sym e) ∙ h))

  one_end : (c d : Dart) (o p : Bool) → IsBound c → IsBound d → turned_by c o ≡ turned_by d p → (c ≡ d) × (o ≡ p)
  unfolding turned_by
  one_end c d true true C D e = (e, refl)
  one_end c d false false C D e = (sym (twin_twice c) ∙ ap twin e ∙ twin_twice d, refl)
  one_end c d true false C D e = clash c (twin d) e C.1 D.2
  one_end c d false true C D e = clash d (twin c) (sym e) D.1 C.2

  one_dart : (c d : Dart) (o p : Bool) → IsBound c → IsBound d → (end_of (dart_ends c) o).0 ≡ (end_of (dart_ends d) p).0 → IsOneWay (end_of (dart_ends d) p).0 (end_of (dart_ends c) o).1 (end_of (dart_ends d) p).1 → (c ≡ d) × (o ≡ p)
  one_dart c d o p C D s h =
      let v = (end_of (dart_ends d) p).0 in
      let u = turned_by c o in
      let w = turned_by d p in
      let U : OutOf g v u = subst (λ (z : Point). OutOf g z u) s (leaves c o C) in
      let W : OutOf g v w = leaves d p D in
      let strict = strict_at g v u plane U in
      let q = strict.total u w U W (order_at v u w U W (end_of (dart_ends c) o).1 (end_of (dart_ends d) p).1 (leads_to c o) (leads_to d p) ∙ h.0) (order_at v w u W U (end_of (dart_ends d) p).1 (end_of (dart_ends c) o).1 (leads_to d p) (leads_to c o) ∙ h.1) in
      one_end c d o p C D q

  ends_apart : (j k : ℕ) (o p : Bool) → j < length bounds → k < length bounds → (end_of (dart_at ends j) o).0 ≡ (end_of (dart_at ends k) p).0 → IsOneWay (end_of (dart_at ends k) p).0 (end_of (dart_at ends j) o).1 (end_of (dart_at ends k) p).1 → (j ≡ k) × (o ≡ p)
  ends_apart j k o p l m s h =
      let e = sym (picked j l) in
      let f = sym (picked k m) in
      let t = one_dart (pick j) (pick k) o p (bound_at j l) (bound_at k m)
      (ap (λ (z : Point × Point). (end_of z o).0) e ∙ s ∙ sym (ap (λ (z : Point × Point). (end_of z p).0) f))
      ((λ i. way_before (end_of (f i) p).0 (end_of (e i) o).1 (end_of (f i) p).1) ∙ h.0, (λ i. way_before (end_of (f i) p).0 (end_of (f i) p).1 (end_of (e i) o).1) ∙ h.1) in
      (one_place bounds apart j k no_dart l m t.0, t.1)

  pub closed_border : IsClosedBorder (map dart_ends (filter (is_side inn g) (dart_list g)))
  closed_border = record {
    apart = λ j k o p l m s h. (let n = counted in ends_apart j k o p (omega arith) (omega arith) s h);
    follows = λ k l. (let n = counted in followed k (omega arith));
  }
