-- A plane graph with an edge split at a point inside it: the cells beside the edge, and which dart follows which.
-- g has the edge f, h its two parts at p.
use Rattle.std.proofs.Common.{◌≡◌, ◌≢◌, ◌↔◌, ◌⊎◌, Bool, true, false, not, arith, List, ◌∷◌, refl, sym, ap, ◌∙◌, subst, inl, inr}
use Rattle.std.specs.List.{Contains, sum_by, filter}
use Rattle.std.proofs.lemmas.Bool.{cases_Bool, true≢false}
use Rattle.std.proofs.lemmas.List.Sums.{sum_by-cons}
use Rattle.exact_plane.specs.Point.{Point}
use Rattle.plane_graphs.specs.Ascending.{IsAscending, ascending}
use Rattle.plane_graphs.specs.Graph.{Edge, edge_cmp}
use Rattle.plane_graphs.specs.Line.{IsProper}
use Rattle.plane_graphs.proofs.Ascending.{to_member, from_member, IsAscending-ascending}
use Rattle.plane_graphs.proofs.Lists.{clash, in_ascending, of_ascending, IsAscending-filter}
use Rattle.plane_graphs.proofs.Meaning.{edge_cmp_total, edge_cmp_exact}
use Rattle.slab_laws.specs.Cycles.{left_of_dart}
use Rattle.slab_laws.specs.Darts.{Dart, darts, start, source, target, ahead, back}
use Rattle.slab_laws.specs.Meets.{SameFace}
use Rattle.slab_laws.specs.Rotation.{twin, next, earlier, OutOf}
use Rattle.slab_laws.specs.Skeleton.{Skeleton, IsPlaneSkeleton, same_edge, inside}
use Rattle.slab_faces.proofs.Member.{member_in, in_member, filter_in, filter_out}
use Rattle.slab_faces.proofs.Sets.{set_cons}
use Rattle.slab_faces.proofs.Shift.{same_sum}
use Rattle.slab_faces.proofs.Slabs.{same_edge_is, same_edge_refl}
use Rattle.slab_faces.proofs.Turns.{member_cases}
use Rattle.rotation_order.specs.EdgeParts.{lower_part, upper_part, IsTurningAs, IsParted}
use Rattle.rotation_order.specs.RingOrder.{sooner_by}
use Rattle.rotation_order.proofs.EdgeCuts.{parted}
use Rattle.rotation_order.proofs.Turning.{soon}
use Rattle.sound_changes.specs.NextLaws.{IsDartOf}
use Rattle.sound_changes.proofs.ClockwiseDarts.{IsFirst, clockwise, twin_out, next_first, first_next}
use Rattle.sound_changes.proofs.PlaneParts.{parted_plane}
use Rattle.face_changes.specs.EdgeSplit.{HasEdgeSplit, whole_dart, FollowsSplit}
use Rattle.face_changes.specs.OneMoreVertex.{widened}
use Rattle.face_changes.proofs.EdgeSplit.{edge_split_in_two}
use Rattle.face_steps.proofs.Counted.{in_front, behind, edge_set}
use Rattle.face_steps.proofs.SplitSteps.{whole_low, whole_high, whole_rest}
use Rattle.zone_walk.proofs.Between.{within}
use Rattle.zone_walk.proofs.MorePoints.{IsListedPlane, points, points_up, points_are, counts}

-- ---- darts of the parts as darts of the whole
module _ (f : Edge) (p : Point) where
  whole_twin : (z : Dart) → whole_dart f p (twin z) ≡ twin (whole_dart f p z)
  unfolding whole_dart
  whole_twin z = elim (cases_Bool (same_edge z.edge (lower_part f p))) [
    | inl k ↦ rw k refl
    | inr k ↦ elim (cases_Bool (same_edge z.edge (upper_part f p))) [ inl l ↦ rw (k, l) refl | inr l ↦ rw (k, l) refl ]
  ]

as_itself : (c : Dart) → IsTurningAs c c
as_itself c = record { way = refl; before = λ d e. refl; behind = λ d e. refl }

module _ (g : Skeleton) (o : IsListedPlane g) (f : Edge) (F : Contains g.edges f) (p : Point) (P : IsProper p) (i : inside f p ≡ true) where
  pub low_fine : IsProper f.low
  low_fine = o.proper f.low (o.plane.lower_in f F)

  pub high_fine : IsProper f.high
  high_fine = o.proper f.high (o.plane.upper_in f F)

  cut : IsParted f p
  cut = parted f p low_fine.positive high_fine.positive P.positive i

  pub new : ¬ Contains g.vertices p
  new V = clash i (o.plane.clear f p F V)

  abbrev pub rest : List Edge
  rest = filter (λ z. not (same_edge z f)) g.edges

  rest_up : IsAscending edge_cmp rest
  rest_up = IsAscending-filter edge_cmp (λ z. not (same_edge z f)) g.edges o.edges

  pub rest_out : (z : Edge) → Contains rest z → Contains g.edges z × (z ≢ f)
  rest_out z Z =
      let k = filter_out (λ y. not (same_edge y f)) g.edges z (in_member rest z Z) in
      (member_in g.edges z k.0, λ q. true≢false (sym k.1 ∙ ap not (ap (λ y. same_edge y f) q ∙ same_edge_refl f)))

  edge_cases : (z : Edge) → Contains g.edges z → Contains rest z ⊎ (z ≡ f)
  edge_cases z Z = elim (cases_Bool (same_edge z f)) [
    | inl b ↦ inr (same_edge_is z f b)
    | inr b ↦ inl (member_in rest z (filter_in (λ y. not (same_edge y f)) g.edges z (in_member g.edges z Z) (ap not b)))
  ]

  abbrev lower : Edge
  lower = lower_part f p

  abbrev upper : Edge
  upper = upper_part f p

  abbrev pub edges : List Edge
  edges = ascending edge_cmp (lower_part f p ∷ upper_part f p ∷ filter (λ z. not (same_edge z f)) g.edges)

  pub edges_up : IsAscending edge_cmp edges
  edges_up = IsAscending-ascending edge_cmp edge_cmp_total (lower ∷ upper ∷ rest)

  listed : (z : Edge) → Contains (lower ∷ upper ∷ rest) z ↔ (Contains rest z ⊎ (z ≡ lower) ⊎ (z ≡ upper))
  listed z = (
    λ Z. elim (member_cases lower (upper ∷ rest) z Z) [
      | inl q ↦ inr (inl (sym q))
      | inr k ↦ elim (member_cases upper rest z k) [ inl q ↦ inr (inr (sym q)) | inr r ↦ inl r ]
    ],
    λ w. elim w [
      | inl r ↦ behind lower (upper ∷ rest) z (behind upper rest z r)
      | inr k ↦ elim k [
        | inl q ↦ subst (Contains (lower ∷ upper ∷ rest)) (sym q) (in_front lower (upper ∷ rest))
        | inr q ↦ subst (Contains (lower ∷ upper ∷ rest)) (sym q) (behind lower (upper ∷ rest) upper (in_front upper rest))
      ]
    ],
  )

  pub edges_are : (z : Edge) → Contains edges z ↔ (Contains rest z ⊎ (z ≡ lower) ⊎ (z ≡ upper))
  edges_are z = (
    λ Z. (listed z).0 (from_member (lower ∷ upper ∷ rest) z (of_ascending edge_cmp edge_cmp_total edge_cmp_exact z (lower ∷ upper ∷ rest) (to_member edges z Z))),
    λ w. from_member edges z (in_ascending edge_cmp edge_cmp_total edge_cmp_exact z (lower ∷ upper ∷ rest) (to_member (lower ∷ upper ∷ rest) z ((listed z).1 w))),
  )

  pub Low : Contains edges (lower_part f p)
  Low = (edges_are lower).1 (inr (inl refl))

  pub High : Contains edges (upper_part f p)
  High = (edges_are upper).1 (inr (inr refl))

  abbrev pub h : Skeleton
  h = record { vertices = points g o p P new; edges = edges }

  pub plane_h : IsPlaneSkeleton h
  plane_h =
      parted_plane g h f p o.plane o.proper (points_up g o p P new) edges_up F P (within f p low_fine high_fine P i) (points_are g o p P new)
      (λ z. (
        λ Z. elim ((edges_are z).0 Z) [ inl r ↦ inl (rest_out z r) | inr w ↦ inr w ],
        λ w. (edges_are z).1 (elim w [ inl k ↦ inl (elim (edge_cases z k.0) [ inl r ↦ r | inr q ↦ absurd (k.1 q) ]) | inr k ↦ inr k ]),
      ))

  no_low : ¬ Contains rest lower
  no_low Z = new (o.plane.upper_in lower (rest_out lower Z).0)

  no_high : ¬ Contains rest upper
  no_high Z = new (o.plane.lower_in upper (rest_out upper Z).0)

  two_parts : lower ≢ upper
  two_parts q = new (subst (Contains g.vertices) (ap (λ (z : Edge). z.low) q) (o.plane.lower_in f F))

  pub split : HasEdgeSplit g h f p rest
  split = record {
    plane = o.plane;
    plane_more = plane_h;
    inside_it = i;
    proper_low = low_fine;
    proper_high = high_fine;
    proper = P;
    vertices = points_are g o p P new;
    counts = counts g o p P new;
    edges = λ z. (edge_cases z, λ k. elim k [ inl r ↦ (rest_out z r).0 | inr q ↦ subst (Contains g.edges) (sym q) F ]);
    edges_more = edges_are;
    sums = λ G.
        same_sum same_edge G g.edges (f ∷ rest) (edge_set g.edges o.edges) (set_cons same_edge f rest (edge_set rest rest_up) (λ k. (rest_out f k).1 refl))
        (λ z Z. elim (edge_cases z Z) [ inl k ↦ behind f rest z k | inr q ↦ subst (Contains (f ∷ rest)) (sym q) (in_front f rest) ])
        (λ z Z. elim (member_cases f rest z Z) [ inl q ↦ subst (Contains g.edges) q F | inr k ↦ (rest_out z k).0 ])
        ∙ sum_by-cons G f rest;
    sums_more = λ G.
        let far = set_cons same_edge upper rest (edge_set rest rest_up) no_high in
        let near = set_cons same_edge lower (upper ∷ rest) far (λ k. elim (member_cases upper rest lower k) [ inl q ↦ two_parts (sym q) | inr r ↦ no_low r ]) in
        let a : sum_by G h.edges ≡ sum_by G (lower ∷ upper ∷ rest) = same_sum same_edge G h.edges (lower ∷ upper ∷ rest) (edge_set h.edges edges_up) near (λ z Z. (listed z).1 ((edges_are z).0 Z)) (λ z Z. (edges_are z).1 ((listed z).0 Z)) in
        let b = sum_by-cons G lower (upper ∷ rest) in
        let c = sum_by-cons G upper rest in
        omega arith;
  }

  -- ---- at the point there are two darts
  at_point : (c : Dart) → OutOf h p c → (c ≡ back lower) ⊎ (c ≡ ahead upper)
  at_point c out = elim ((edges_are c.edge).0 out.in') [
    | inl r ↦ absurd (new (subst (Contains g.vertices) out.at (ends_in c.forward r)))
    | inr w ↦ elim w [ inl q ↦ at_low c.forward refl q | inr q ↦ at_high c.forward refl q ]
  ]
    where
      ends_in : (b : Bool) → Contains rest c.edge → Contains g.vertices (start c.edge b)
      ends_in true r = o.plane.lower_in c.edge (rest_out c.edge r).0
      ends_in false r = o.plane.upper_in c.edge (rest_out c.edge r).0

      at_low : (b : Bool) → c.forward ≡ b → c.edge ≡ lower → (c ≡ back lower) ⊎ (c ≡ ahead upper)
      at_low true b q = absurd (new (subst (Contains g.vertices) (sym (λ j. start (q j) (b j)) ∙ out.at) (o.plane.lower_in f F)))
      at_low false b q = inl (λ j. record { edge = q j; forward = b j })

      at_high : (b : Bool) → c.forward ≡ b → c.edge ≡ upper → (c ≡ back lower) ⊎ (c ≡ ahead upper)
      at_high true b q = inr (λ j. record { edge = q j; forward = b j })
      at_high false b q = absurd (new (subst (Contains g.vertices) (sym (λ j. start (q j) (b j)) ∙ out.at) (o.plane.upper_in f F)))

  low_out : OutOf h p (back lower)
  low_out = record { in' = Low; at = refl }

  high_out : OutOf h p (ahead upper)
  high_out = record { in' = High; at = refl }

  ways_differ : ahead upper ≢ back lower
  ways_differ q = true≢false (ap (λ (z : Dart). z.forward) q)

  pub onward : next (darts h) (ahead (lower_part f p)) ≡ ahead (upper_part f p)
  onward = first_next h plane_h (ahead lower) (ahead upper) Low (record {
    out = high_out;
    first = λ c out n. elim (at_point c out) [
      | inl q ↦ subst (λ z. sooner_by earlier (back lower) (ahead upper) z ≡ true) (sym q) ((clockwise h p plane_h (back lower) low_out).last (back lower) (ahead upper) low_out high_out ways_differ)
      | inr q ↦ absurd (n q)
    ];
  })

  pub backward : next (darts h) (back (upper_part f p)) ≡ back (lower_part f p)
  backward = first_next h plane_h (back upper) (back lower) High (record {
    out = low_out;
    first = λ c out n. elim (at_point c out) [
      | inl q ↦ absurd (n q)
      | inr q ↦ subst (λ z. sooner_by earlier (ahead upper) (back lower) z ≡ true) (sym q) ((clockwise h p plane_h (ahead upper) high_out).last (ahead upper) (back lower) high_out low_out (λ e. ways_differ (sym e)))
    ];
  })

  -- ---- elsewhere darts turn as those of the whole edge
  abbrev W : Dart → Dart
  W d = whole_dart f p d

  rest_whole : (c : Dart) → Contains rest c.edge → whole_dart f p c ≡ c
  rest_whole c r = whole_rest f p c (λ q. no_low (subst (Contains rest) q r)) (λ q. no_high (subst (Contains rest) q r))

  record IsAs (y : Point) (c z : Dart) : Type 0 where
    turns : IsTurningAs z c
    out : OutOf g y z

  module _ (y : Point) (off : y ≢ p) where
    as_whole : (c : Dart) → OutOf h y c → IsAs y c (whole_dart f p c)
    as_whole c out = elim ((edges_are c.edge).0 out.in') [
      | inl r ↦ subst (IsAs y c) (sym (rest_whole c r)) (record { turns = as_itself c; out = record { in' = (rest_out c.edge r).0; at = out.at } })
      | inr w ↦ elim w [ inl q ↦ at_low c.forward refl q | inr q ↦ at_high c.forward refl q ]
    ]
      where
        at_low : (b : Bool) → c.forward ≡ b → c.edge ≡ lower → IsAs y c (whole_dart f p c)
        at_low true b q =
            let e : c ≡ ahead lower = λ j. record { edge = q j; forward = b j } in
            subst (λ z. IsAs y z (whole_dart f p z)) (sym e) (subst (IsAs y (ahead lower)) (sym (whole_low f p true)) (record { turns = cut.at_low; out = record { in' = F; at = sym (ap source e) ∙ out.at } }))
        at_low false b q = absurd (off (sym out.at ∙ (λ j. start (q j) (b j))))

        at_high : (b : Bool) → c.forward ≡ b → c.edge ≡ upper → IsAs y c (whole_dart f p c)
        at_high true b q = absurd (off (sym out.at ∙ (λ j. start (q j) (b j))))
        at_high false b q =
            let e : c ≡ back upper = λ j. record { edge = q j; forward = b j } in
            subst (λ z. IsAs y z (whole_dart f p z)) (sym e) (subst (IsAs y (back upper)) (sym (whole_high f p false)) (record { turns = cut.at_high; out = record { in' = F; at = sym (ap source e) ∙ out.at } }))

    as_before : (a c : Dart) → OutOf h y a → OutOf h y c → earlier (whole_dart f p a) (whole_dart f p c) ≡ earlier a c
    as_before a c A C =
        let k = as_whole a A in
        let l = as_whole c C in
        sym (k.turns.before c (C.at ∙ sym k.out.at) ∙ l.turns.behind (whole_dart f p a) (k.out.at ∙ sym l.out.at))

    -- each dart of g there comes from one of h
    from_whole : (z : Dart) → OutOf g y z → (c : Dart) × OutOf h y c × (whole_dart f p c ≡ z)
    from_whole z out = elim (edge_cases z.edge out.in') [
      | inl r ↦ (z, record { in' = (edges_are z.edge).1 (inl r); at = out.at }, rest_whole z r)
      | inr q ↦ by z.forward refl q
    ]
      where
        by : (b : Bool) → z.forward ≡ b → z.edge ≡ f → (c : Dart) × OutOf h y c × (whole_dart f p c ≡ z)
        by true b q = let e : z ≡ ahead f = λ j. record { edge = q j; forward = b j } in (ahead lower, record { in' = Low; at = sym (ap source e) ∙ out.at }, whole_low f p true ∙ sym e)
        by false b q = let e : z ≡ back f = λ j. record { edge = q j; forward = b j } in (back upper, record { in' = High; at = sym (ap source e) ∙ out.at }, whole_high f p false ∙ sym e)

    first_whole : (x e : Dart) → OutOf h y x → IsFirst h y x e → IsFirst g y (whole_dart f p x) (whole_dart f p e)
    first_whole x e X k = record {
      out = (as_whole e k.out).out;
      first = λ z out n.
          let c = from_whole z out in
          let m = k.first c.0 c.1 (λ q. n (sym c.2 ∙ ap (whole_dart f p) q)) in
          subst (λ u. sooner_by earlier (whole_dart f p x) (whole_dart f p e) u ≡ true) c.2
          ((λ j. soon (as_before x e X k.out j) (as_before x c.0 X c.1 j) (as_before e c.0 k.out c.1 j)) ∙ m);
    }

  others : (d : Dart) → IsDartOf h d → d ≢ ahead lower → d ≢ back upper → whole_dart f p (next (darts h) d) ≡ next (darts g) (whole_dart f p d)
  others d D a b = sym (first_next g o.plane (whole_dart f p d) (whole_dart f p (next (darts h) d)) in_g
      (subst (λ (z : Dart). IsFirst g (source z) z (whole_dart f p (next (darts h) d))) (whole_twin f p d) (subst (λ y. IsFirst g y (whole_dart f p (twin d)) (whole_dart f p (next (darts h) d))) (sym k.out.at) k')))
    where
      off : target d ≢ p
      off e = elim (at_point (twin d) (record { in' = D; at = e })) [
        | inl q ↦ a (λ j. record { edge = (q j).edge; forward = not_back (ap (λ (z : Dart). z.forward) q) j })
        | inr q ↦ b (λ j. record { edge = (q j).edge; forward = not_ahead (ap (λ (z : Dart). z.forward) q) j })
      ]
        where
          flip : (x y : Bool) → not x ≡ y → x ≡ not y
          flip true true q = sym q
          flip true false q = refl
          flip false true q = refl
          flip false false q = sym q

          not_back : not d.forward ≡ false → d.forward ≡ true
          not_back q = flip d.forward false q

          not_ahead : not d.forward ≡ true → d.forward ≡ false
          not_ahead q = flip d.forward true q

      t_out : OutOf h (target d) (twin d)
      t_out = twin_out h plane_h d D

      k : IsAs (target d) (twin d) (whole_dart f p (twin d))
      k = as_whole (target d) off (twin d) t_out

      k' : IsFirst g (target d) (whole_dart f p (twin d)) (whole_dart f p (next (darts h) d))
      k' = first_whole (target d) off (twin d) (next (darts h) d) t_out (next_first h plane_h d D)

      in_g : IsDartOf g (whole_dart f p d)
      in_g = subst (λ (z : Dart). Contains g.edges z.edge) (whole_twin f p d) k.out.in'

  pub follows : FollowsSplit g h f p
  follows = record { onward = onward; backward = backward; others = others }

  -- ---- the dart of h that ends at the point, with the face on its left
  abbrev pub into : Bool → Dart
  into true = ahead (lower_part f p)
  into false = back (upper_part f p)

  pub into_there : (b : Bool) → IsDartOf h (into b)
  into_there true = Low
  into_there false = High

  pub beside_into : (b : Bool) → SameFace g (widened g p (left_of_dart h (into b))) (left_of_dart g (record { edge = f; forward = b }))
  beside_into b = subst (λ z. SameFace g (widened g p (left_of_dart h (into b))) (left_of_dart g z)) (whole_into b) (edge_split_in_two.dart g h f p rest (into b) split follows (into_there b))
    where
      whole_into : (b : Bool) → whole_dart f p (into b) ≡ (record { edge = f; forward = b })
      whole_into true = whole_low f p true
      whole_into false = whole_high f p false
