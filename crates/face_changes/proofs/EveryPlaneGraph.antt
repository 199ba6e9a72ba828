-- Every plane graph has one outer cycle for each bounded face and none for the unbounded one: by induction over its edges, whatever the next edge links.
-- g is without the edge e, h with it; L and M give the least dart of a cycle in g and in h; x and y are the darts of e, a and b the darts that they come after.
use Rattle.std.proofs.Common.{◌≡◌, ℕ, ◌+◌, true, false, cond, arith, refl, sym, ap, ◌∙◌, subst, ◌⊎◌, inl, inr, List, [], ◌∷◌}
use Rattle.std.specs.List.{count_by, Contains}
use Rattle.std.proofs.lemmas.Bool.{false_from_ne_true}
use Rattle.std.proofs.lemmas.List.Sums.{sum_by-cons}
use Rattle.exact_plane.specs.Point.{Point}
use Rattle.plane_graphs.specs.Graph.{Edge}
use Rattle.slab_laws.specs.Skeleton.{Skeleton, same_edge, IsPlaneSkeleton}
use Rattle.slab_laws.specs.Weights.{Even}
use Rattle.slab_laws.specs.Darts.{Dart, darts, ahead}
use Rattle.slab_laws.specs.Meets.{SameFace}
use Rattle.slab_laws.specs.Changes.{merged}
use Rattle.slab_laws.specs.Rotation.{twin, same_dart}
use Rattle.slab_laws.specs.Cycles.{dart_labels, darts_on, left_of_dart}
use Rattle.slab_laws.specs.Rows.{least_dart_of}
use Rattle.slab_faces.proofs.Turns.{face_trans, face_sym, member_cases}
use Rattle.slab_faces.proofs.Member.{in_member}
use Rattle.slab_faces.proofs.Slabs.{same_edge_is}
use Rattle.slab_faces.proofs.NextLemmas.{next_keeps_face}
use Rattle.slab_faces.proofs.Added.{first, rest}
use Rattle.sound_changes.specs.NextLaws.{HasEdgeMore, IsDartOf, IsBareEnd, ComesBetween, IsNextWithMore}
use Rattle.sound_changes.proofs.NextDarts.{next_with_one_more_edge}
use Rattle.face_changes.specs.Orbits.{AreOrbitsKept}
use Rattle.face_changes.proofs.EdgeOrder.{finer}
use Rattle.face_changes.proofs.LinkedCycles.{up, dart_there, either, parts, joins, grows, apart}
use Rattle.face_changes.proofs.CycleParities.{weight_of, choose, same_is, same_not, on_edge, weights_even, one_even, own_even}
use Rattle.face_changes.proofs.MergedCells.{not_there}
use Rattle.face_changes.proofs.OuterCycles.{own_weight, cycle_face}
use Rattle.face_changes.proofs.PartedCycle.{old_left, real_left, beside}
use Rattle.face_changes.proofs.OneOuterKept.{IsOuterOnce, split_once, kept_once, united_once}
use Rattle.sound_views.proofs.RoundTurned.{twin_twice}

module _ (g : Skeleton) (hs : List Edge) (e : Edge) (plane : IsPlaneSkeleton (record { vertices = g.vertices; edges = hs })) (plane_g : IsPlaneSkeleton g) (more : HasEdgeMore g (record { vertices = g.vertices; edges = hs }) e) where
  abbrev h : Skeleton
  h = record { vertices = g.vertices; edges = hs }

  abbrev L : Dart → Dart
  L = least_dart_of g

  abbrev M : Dart → Dart
  M = least_dart_of (record { vertices = g.vertices; edges = hs })

  -- the face of a dart after which x comes
  pub near : (x a : Dart) → IsDartOf g a → x.edge ≡ e → ComesBetween g a x → SameFace g (left_of_dart g a) (merged g e (left_of_dart h x))
  near x a A q k =
      let n : IsNextWithMore g h e = next_with_one_more_edge g h e plane_g plane more in
      beside g hs e plane plane_g more a (left_of_dart h x) A (subst (λ z. SameFace h (left_of_dart h a) (left_of_dart h z)) (n.between a x A q k) (next_keeps_face h a plane (up g h e plane_g plane more a A)))

  -- ---- the old cycles stay, and x and its twin are on one cycle
  module _ (x : Dart) (q : x.edge ≡ e) (kept : AreOrbitsKept L M (darts g)) (one : M x ≡ M (twin x)) where
    -- each old dart has the kind that it had
    pub same_kind : (y : Dart) → IsDartOf g y → Even (own_weight h y + own_weight g y)
    same_kind y Y =
        let c = left_of_dart h y in
        let p = one_even g hs e plane plane_g more (M y) (L y) c (real_left g hs e plane plane_g more y (up g h e plane_g plane more y Y)) (own_even g hs e plane plane_g more x q one (M y))
        (λ z Z. elim (choose (L z) (L y)) [
          | inl r ↦ same_is (M z) (M y) (kept.still z y (dart_there g z Z) (dart_there g y Y) r) ∙ sym (same_is (L z) (L y) r)
          | inr r ↦ same_not (M z) (M y) (λ k. r (kept.kept z y (dart_there g z Z) (dart_there g y Y) k)) ∙ sym (same_not (L z) (L y) r)
        ]) in
        let k : weight_of g (L y) (merged g e c) ≡ own_weight g y = ap (weight_of g (L y)) (old_left g hs e plane plane_g more y Y) in
        omega arith

    still : (y z : Dart) → IsDartOf g y → IsDartOf g z → L y ≡ L z → M y ≡ M z
    still y z Y Z k = kept.still y z (dart_there g y Y) (dart_there g z Z) k

    old_or : (d : Dart) → IsDartOf h d → IsDartOf g d ⊎ (M d ≡ M x)
    old_or d D = elim ((more.edges d.edge).0 D) [
      | inl k ↦ inl k
      | inr k ↦ inr (elim (either g h e plane_g plane more x d q k) [ inl w ↦ ap M w | inr w ↦ ap M w ∙ sym one ])
    ]

    -- the new darts are on an old cycle
    pub grown_once : IsOuterOnce g → (a : Dart) → IsDartOf g a → M x ≡ M a → IsOuterOnce h
    grown_once o a A k = kept_once g hs e plane plane_g more o same_kind still (λ d D. elim (old_or d D) [ inl w ↦ inl (d, w, refl) | inr w ↦ inl (a, A, w ∙ k) ])

    -- a cycle of the new darts alone is even everywhere
    pub alone_even : ((y : Dart) → Contains (darts g) y → M y ≡ M x → ⊥) → (d : Dart) → M d ≡ M x → Even (own_weight h d)
    alone_even none d k =
        let c = left_of_dart h d in
        let w : Even (weight_of h (M x) c) = weights_even h (darts_on (dart_labels (darts h)) (M x)) c.slab c.place (λ z Z. elim ((more.edges z).0 Z) [
          | inl i ↦ off z i
          | inr r ↦ subst (λ y. Even (darts_on (dart_labels (darts h)) (M x) y)) (sym r) (own_even g hs e plane plane_g more x q one (M x))
        ]) in
        let r : weight_of h (M x) c ≡ own_weight h d = ap (λ l. weight_of h l c) (sym k) in
        omega arith
      where
        off : (z : Edge) → Contains g.edges z → Even (darts_on (dart_labels (darts h)) (M x) z)
        off z Z =
            let a = on_edge h (M x) z in
            let b : cond {A = ℕ} (same_dart (M (record { edge = z; forward = true })) (M x)) 1 0 ≡ 0 = ap (λ b. cond {A = ℕ} b 1 0) (same_not (M (record { edge = z; forward = true })) (M x) (none (record { edge = z; forward = true }) (dart_there g (record { edge = z; forward = true }) Z))) in
            let c : cond {A = ℕ} (same_dart (M (record { edge = z; forward = false })) (M x)) 1 0 ≡ 0 = ap (λ b. cond {A = ℕ} b 1 0) (same_not (M (record { edge = z; forward = false })) (M x) (none (record { edge = z; forward = false }) (dart_there g (record { edge = z; forward = false }) Z))) in
            omega arith

    -- or on one of their own, which is inner
    pub alone_once : IsOuterOnce g → ((y : Dart) → Contains (darts g) y → M y ≡ M x → ⊥) → IsOuterOnce h
    alone_once o none = kept_once g hs e plane plane_g more o same_kind still (λ d D. elim (old_or d D) [ inl w ↦ inl (d, w, refl) | inr w ↦ inr (alone_even none d w) ])

  -- ---- whatever the edge links
  pub step : IsOuterOnce g → IsOuterOnce h
  step o =
      let n : IsNextWithMore g h e = next_with_one_more_edge g h e plane_g plane more in
      let x : Dart = ahead e in
      let y : Dart = twin x in
      elim (n.somewhere x refl) [
        | inl bx ↦ elim (n.somewhere y refl) [
          | inl by ↦
              let r = apart g h e plane_g plane more x refl bx by in
              alone_once x refl r.0 (sym r.1) o r.2
          | inr b ↦
              let r = grows g h e plane_g plane more y refl b.0 b.1 b.2 (subst (IsBareEnd g) (sym (twin_twice x)) bx) in
              grown_once y refl r.0 (r.1 ∙ sym r.2) o b.0 b.1 r.1
        ]
        | inr a ↦ elim (n.somewhere y refl) [
          | inl by ↦
              let r = grows g h e plane_g plane more x refl a.0 a.1 a.2 by in
              grown_once x refl r.0 (r.1 ∙ sym r.2) o a.0 a.1 r.1
          | inr b ↦ linked o x y refl refl a.0 b.0 a.1 b.1 a.2 b.2
        ]
      ]
    where
      linked : IsOuterOnce g → (x y : Dart) → x.edge ≡ e → y ≡ twin x → (a b : Dart) → IsDartOf g a → IsDartOf g b → ComesBetween g a x → ComesBetween g b y → IsOuterOnce h
      linked o x y q t a b A B at_a at_b =
          let near_x = face_sym g _ _ (near x a A q at_a) in
          let near_y = face_sym g _ _ (near y b B (ap (λ (z : Dart). z.edge) t ∙ q) at_b) in
          let at_b' = subst (ComesBetween g b) t at_b in
          elim (choose (L a) (L b)) [
            | inl one ↦
                split_once g hs e plane plane_g more o x (twin x) a q refl (parts g h e plane_g plane more x q a b A B at_a at_b' one) A near_x
                (subst (λ z. SameFace g (merged g e (left_of_dart h z)) (left_of_dart g a)) t (face_trans g _ _ _ near_y (face_sym g _ _ (cycle_face g plane_g a b one))))
            | inr two ↦
                let s = joins g h e plane_g plane more x q a b A B at_a at_b' two in
                let f : SameFace h (left_of_dart h x) (left_of_dart h y) = subst (λ z. SameFace h (left_of_dart h x) (left_of_dart h z)) (sym t) (cycle_face h plane x (twin x) s.one) in
                united_once g hs e plane plane_g more o x a b q two s A B near_x (face_trans g _ _ _ (finer g hs e plane plane_g more _ _ f) near_y)
          ]

-- ---- by the edges of a graph
part_plane : (vs : List Point) (e : Edge) (es : List Edge) → IsPlaneSkeleton (record { vertices = vs; edges = e ∷ es }) → IsPlaneSkeleton (record { vertices = vs; edges = es })
part_plane vs e es plane =
    let g : Skeleton = record { vertices = vs; edges = es } in
    record {
      proper = plane.proper;
      lower_in = λ z Z. plane.lower_in z (rest g e z Z);
      upper_in = λ z Z. plane.upper_in z (rest g e z Z);
      lower_once = λ z Z. plane.lower_once z (rest g e z Z);
      upper_once = λ z Z. plane.upper_once z (rest g e z Z);
      proper_edge = λ z Z. plane.proper_edge z (rest g e z Z);
      forward = λ z Z. plane.forward z (rest g e z Z);
      upright = λ z Z. plane.upright z (rest g e z Z);
      edge_once = λ z Z.
          let a = plane.edge_once z (rest g e z Z) in
          let b : count_by (same_edge z) (e ∷ es) ≡ cond (same_edge z e) 1 0 + count_by (same_edge z) es = sum_by-cons (λ x. cond (same_edge z x) 1 0) e es in
          let c : cond {A = ℕ} (same_edge z e) 1 0 ≡ 0 = ap (λ b. cond {A = ℕ} b 1 0) (false_from_ne_true (same_edge z e) (λ k. not_there g e plane z Z (sym (same_edge_is z e k)))) in
          omega arith;
      distinct = plane.distinct;
      clear = λ z v Z V. plane.clear z v (rest g e z Z) V;
      uncrossed = λ y z Y Z. plane.uncrossed y z (rest g e y Y) (rest g e z Z);
    }

by_edges : (vs : List Point) (es : List Edge) → IsPlaneSkeleton (record { vertices = vs; edges = es }) → IsOuterOnce (record { vertices = vs; edges = es })
by_edges vs [] plane = record {
  once = λ y z Y Z k u v. absurd (in_member [] y.edge Y);
  none = λ y Y k u. absurd (in_member [] y.edge Y);
}
by_edges vs (e ∷ es) plane =
    let g : Skeleton = record { vertices = vs; edges = es } in
    let p : IsPlaneSkeleton g = part_plane vs e es plane in
    step g (e ∷ es) e plane p (record {
      vertices = refl;
      fresh = λ k. not_there g e plane e k refl;
      edges = λ z. (λ Z. elim (member_cases e es z Z) [ inl q ↦ inr (sym q) | inr k ↦ inl k ], λ w. elim w [ inl k ↦ rest g e z k | inr q ↦ subst (Contains (e ∷ es)) (sym q) (first g e) ]);
    }) (by_edges vs es p)

pub outer_once : (g : Skeleton) → IsPlaneSkeleton g → IsOuterOnce g
outer_once g plane = by_edges g.vertices g.edges plane
