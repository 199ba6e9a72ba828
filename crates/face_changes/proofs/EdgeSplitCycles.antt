-- An edge that is split: cycles and kinds are as before.
-- g has the edge e, h its two parts at v; hv and hs are the vertices and edges of h, `rest` the edges of both.
-- L and M give the least dart of a cycle in g and in h; fw is the way of a dart.
use Rattle.std.proofs.Common.{◌≡◌, ℕ, Bool, true, false, arith, sym, ap, ◌∙◌, subst, inl, inr, List}
use Rattle.std.specs.Prelude.{◌%◌, ◌==◌}
use Rattle.std.specs.List.{Contains}
use Rattle.std.proofs.lemmas.Bool.{false≢true, true≢false}
use Rattle.exact_plane.specs.Point.{Point}
use Rattle.plane_graphs.specs.Graph.{Edge}
use Rattle.slab_laws.specs.declared.slab_cell.SlabCell.{SlabCell}
use Rattle.slab_laws.specs.Skeleton.{same_edge, Skeleton, left_of}
use Rattle.slab_laws.specs.Weights.{weight_above}
use Rattle.slab_laws.specs.Darts.{Dart, darts, ahead, back, cell_by}
use Rattle.slab_laws.specs.Meets.{SameFace}
use Rattle.slab_laws.specs.Cycles.{dart_labels, darts_on, odd, left_of_dart}
use Rattle.slab_laws.specs.Rows.{least_dart_of}
use Rattle.slab_faces.proofs.Nudge.{left_inside, is_slab_left, right_inside, is_slab_right}
use Rattle.slab_laws.specs.Rotation.{next, same_dart}
use Rattle.slab_faces.proofs.NextLemmas.{darts_exact}
use Rattle.slab_faces.proofs.CyclesLemmas.{one_to_one}
use Rattle.face_changes.proofs.NewWall.{narrow, face_down}
use Rattle.face_changes.proofs.OneMoreEdge.{one_kind_each}
use Rattle.face_changes.proofs.LinkedCycles.{labelled, dart_there, there_dart}
use Rattle.face_changes.proofs.OneToOneMaps.{tally}
use Rattle.face_changes.proofs.OrbitSplices.{agrees}
use Rattle.face_changes.proofs.CycleParities.{choose, same_is, same_not, on_edge}
use Rattle.slab_faces.proofs.Slabs.{same_edge_refl, IsSlab}
use Rattle.slab_faces.proofs.Turns.{face_at, face_trans, on_own_wall}
use Rattle.sound_changes.specs.NextLaws.{IsDartOf}
use Rattle.face_changes.specs.Kinds.{is_outer}
use Rattle.face_changes.specs.OneMoreVertex.{widened}
use Rattle.face_changes.specs.EdgeSplit.{HasEdgeSplit, whole_dart, FollowsSplit}
use Rattle.rotation_order.specs.EdgeParts.{lower_part, upper_part}
use Rattle.face_changes.proofs.EdgeSplitCells.{cell_low, cell_rest}
use Rattle.face_changes.proofs.EdgeSplitDarts.{part_dart, SplitDarts, split_darts}
use Rattle.face_changes.proofs.EdgeSplitFacts.{SplitFacts, split_facts}
use Rattle.face_changes.proofs.EdgeSplitSlabs.{weight_parted}
use Rattle.face_changes.proofs.EdgeSplitWalls.{alike}

module _ (g : Skeleton) (hv : List Point) (hs : List Edge) (e : Edge) (v : Point) (rest : List Edge) (m : HasEdgeSplit g (record { vertices = hv; edges = hs }) e v rest) where
  abbrev h : Skeleton
  h = record { vertices = hv; edges = hs }

  abbrev facts : SplitFacts g hv hs e v rest
  facts = split_facts g hv hs e v rest m

  abbrev both : SplitDarts e v rest
  both = split_darts g hv hs e v rest m

  -- a dart of h as one of g, and the other way
  abbrev whole : Dart → Dart
  whole = whole_dart e v

  abbrev part : Dart → Dart
  part = part_dart e v

  module _ (fl : FollowsSplit g (record { vertices = hv; edges = hs }) e v) where
    abbrev L : Dart → Dart
    L = least_dart_of g

    abbrev M : Dart → Dart
    M = least_dart_of (record { vertices = hv; edges = hs })

    -- darts of h, one sort after the other
    sorted : (P : Dart → Type 0) → ((fw : Bool) → P (record { edge = lower_part e v; forward = fw })) → ((fw : Bool) → P (record { edge = upper_part e v; forward = fw })) → ((d : Dart) → Contains rest d.edge → P d) → (d : Dart) → IsDartOf h d → P d
    sorted P a b c d D = elim ((m.edges_more d.edge).0 D) [
      | inl k ↦ c d k
      | inr x ↦ elim x [
        | inl q ↦ subst (λ z. P (record { edge = z; forward = d.forward })) (sym q) (a d.forward)
        | inr q ↦ subst (λ z. P (record { edge = z; forward = d.forward })) (sym q) (b d.forward)
      ]
    ]

    step_h : (d : Dart) → IsDartOf h d → M d ≡ M (next (darts h) d)
    step_h d D = (labelled h).step d (dart_there h d D)

    step_g : (d : Dart) → IsDartOf g d → L d ≡ L (next (darts g) d)
    step_g d D = (labelled g).step d (dart_there g d D)

    whole_in : (d : Dart) → IsDartOf h d → IsDartOf g (whole d)
    whole_in = sorted (λ d. IsDartOf g (whole d)) (λ fw. subst (IsDartOf g) (sym (both.whole_low fw)) facts.edge_in) (λ fw. subst (IsDartOf g) (sym (both.whole_high fw)) facts.edge_in) (λ d D. subst (IsDartOf g) (sym (both.whole_rest d D)) (facts.old_edge d.edge D))

    -- the labels of g along the darts of h
    along_h : (d : Dart) → Contains (darts h) d → L (whole d) ≡ L (whole (next (darts h) d))
    along_h d D = elim (choose d (ahead (lower_part e v))) [
      | inl q ↦ subst (λ z. L (whole z) ≡ L (whole (next (darts h) z))) (sym q) (ap L (both.whole_low true ∙ sym (both.whole_high true)) ∙ ap (λ z. L (whole z)) (sym fl.onward))
      | inr n ↦ elim (choose d (back (upper_part e v))) [
        | inl q ↦ subst (λ z. L (whole z) ≡ L (whole (next (darts h) z))) (sym q) (ap L (both.whole_high false ∙ sym (both.whole_low false)) ∙ ap (λ z. L (whole z)) (sym fl.backward))
        | inr k ↦ let I = there_dart h d D in step_g (whole d) (whole_in d I) ∙ ap L (sym (other d I n k))
      ]
    ]
      where
        other : (d : Dart) → IsDartOf h d → (d ≡ ahead (lower_part e v) → ⊥) → (d ≡ back (upper_part e v) → ⊥) → whole (next (darts h) d) ≡ next (darts g) (whole d)
        other = fl.others

    pub leads_down : (d k : Dart) → M d ≡ M k → L (whole d) ≡ L (whole k)
    leads_down d k q = agrees same_dart darts_exact.path darts_exact.itself (next (darts h)) (darts h) M (labelled h) (λ z. L (whole z)) along_h d k q

    -- both parts are on one cycle on each side
    one_ahead : M (ahead (lower_part e v)) ≡ M (ahead (upper_part e v))
    one_ahead = step_h (ahead (lower_part e v)) facts.lower_in ∙ ap M fl.onward

    one_back : M (back (upper_part e v)) ≡ M (back (lower_part e v))
    one_back = step_h (back (upper_part e v)) facts.upper_in ∙ ap M fl.backward

    high_low : (fw : Bool) → M (record { edge = upper_part e v; forward = fw }) ≡ M (record { edge = lower_part e v; forward = fw })
    high_low true = sym one_ahead
    high_low false = one_back

    round_trip : (d : Dart) → IsDartOf h d → M (part (whole d)) ≡ M d
    round_trip = sorted (λ d. M (part (whole d)) ≡ M d)
        (λ fw. ap (λ z. M (part z)) (both.whole_low fw) ∙ ap M (both.part_whole fw))
        (λ fw. ap (λ z. M (part z)) (both.whole_high fw) ∙ ap M (both.part_whole fw) ∙ sym (high_low fw))
        (λ d D. ap (λ z. M (part z)) (both.whole_rest d D) ∙ ap M (both.part_rest d D))

    next_in : (d : Dart) → IsDartOf h d → IsDartOf h (next (darts h) d)
    next_in d D = there_dart h (next (darts h) d) ((one_to_one h m.plane_more).inside d (dart_there h d D))

    -- a dart of h that is followed as in g
    up_by : (d : Dart) → IsDartOf h d → (d ≡ ahead (lower_part e v) → ⊥) → (d ≡ back (upper_part e v) → ⊥) → M d ≡ M (part (next (darts g) (whole d)))
    up_by d D n k = step_h d D ∙ sym (round_trip (next (darts h) d) (next_in d D)) ∙ ap (λ z. M (part z)) (fl.others d D n k)

    parts_differ : (fw gw : Bool) → ◌≡◌ {A = Dart} (record { edge = upper_part e v; forward = fw }) (record { edge = lower_part e v; forward = gw }) → ⊥
    parts_differ fw gw q = false≢true (sym both.two_parts ∙ subst (λ z. same_edge (lower_part e v) z ≡ true) (sym (ap (λ (d : Dart). d.edge) q)) (same_edge_refl (lower_part e v)))

    ways_differ : (z y : Edge) → ◌≡◌ {A = Dart} (record { edge = z; forward = true }) (record { edge = y; forward = false }) → ⊥
    ways_differ z y q = true≢false (ap (λ (d : Dart). d.forward) q)

    along_g : (d : Dart) → Contains (darts g) d → M (part d) ≡ M (part (next (darts g) d))
    along_g d D = elim ((m.edges d.edge).0 (there_dart g d D)) [
      | inl k ↦
          let a = up_by d (facts.kept_edge d.edge k) (λ q. not_low d k (ap (λ (z : Dart). z.edge) q)) (λ q. not_high d k (ap (λ (z : Dart). z.edge) q)) in
          ap M (both.part_rest d k) ∙ a ∙ ap (λ z. M (part (next (darts g) z))) (both.whole_rest d k)
      | inr q ↦ subst (λ z. M (part (record { edge = z; forward = d.forward })) ≡ M (part (next (darts g) (record { edge = z; forward = d.forward })))) (sym q) (of_e d.forward)
    ]
      where
        not_low : (d : Dart) → Contains rest d.edge → d.edge ≡ lower_part e v → ⊥
        not_low d k q = false≢true (sym (both.not_low d.edge k) ∙ subst (λ z. same_edge z (lower_part e v) ≡ true) (sym q) (same_edge_refl (lower_part e v)))

        not_high : (d : Dart) → Contains rest d.edge → d.edge ≡ upper_part e v → ⊥
        not_high d k q = false≢true (sym (both.not_high d.edge k) ∙ subst (λ z. same_edge z (upper_part e v) ≡ true) (sym q) (same_edge_refl (upper_part e v)))

        of_e : (fw : Bool) → M (part (record { edge = e; forward = fw })) ≡ M (part (next (darts g) (record { edge = e; forward = fw })))
        of_e true =
            ap M (both.part_whole true) ∙ one_ahead ∙ up_by (ahead (upper_part e v)) facts.upper_in (parts_differ true true) (ways_differ (upper_part e v) (upper_part e v))
            ∙ ap (λ z. M (part (next (darts g) z))) (both.whole_high true)
        of_e false =
            ap M (both.part_whole false) ∙ up_by (back (lower_part e v)) facts.lower_in (λ q. ways_differ (lower_part e v) (lower_part e v) (sym q)) (λ q. parts_differ false false (sym q))
            ∙ ap (λ z. M (part (next (darts g) z))) (both.whole_low false)

    pub leads_up : (d k : Dart) → IsDartOf h d → IsDartOf h k → L (whole d) ≡ L (whole k) → M d ≡ M k
    leads_up d k D K q = sym (round_trip d D) ∙ agrees same_dart darts_exact.path darts_exact.itself (next (darts g)) (darts g) L (labelled g) (λ z. M (part z)) along_g (whole d) (whole k) q ∙ round_trip k K

    -- ---- kinds
    same_test : (x d : Dart) → IsDartOf h x → IsDartOf h d → same_dart (M x) (M d) ≡ same_dart (L (whole x)) (L (whole d))
    same_test x d X D = elim (choose (M x) (M d)) [
      | inl q ↦ same_is (M x) (M d) q ∙ sym (same_is (L (whole x)) (L (whole d)) (leads_down x d q))
      | inr n ↦ same_not (M x) (M d) n ∙ sym (same_not (L (whole x)) (L (whole d)) (λ q. n (leads_up x d X D q)))
    ]

    module _ (d : Dart) (D : IsDartOf h d) where
      abbrev n : Edge → ℕ
      n = darts_on (dart_labels (darts (record { vertices = hv; edges = hs }))) (least_dart_of (record { vertices = hv; edges = hs }) d)

      abbrev k : Edge → ℕ
      k = darts_on (dart_labels (darts g)) (least_dart_of g (whole d))

      one_count : (z y : Edge) → Contains hs z → ((fw : Bool) → whole (record { edge = z; forward = fw }) ≡ (record { edge = y; forward = fw })) → n z ≡ k y
      one_count z y Z w =
          let a = on_edge h (M d) z in
          let b = on_edge g (L (whole d)) y in
          let p : tally (same_dart (M (record { edge = z; forward = true })) (M d)) ≡ tally (same_dart (L (record { edge = y; forward = true })) (L (whole d))) = ap tally (same_test (record { edge = z; forward = true }) d Z D ∙ ap (λ x. same_dart (L x) (L (whole d))) (w true)) in
          let q : tally (same_dart (M (record { edge = z; forward = false })) (M d)) ≡ tally (same_dart (L (record { edge = y; forward = false })) (L (whole d))) = ap tally (same_test (record { edge = z; forward = false }) d Z D ∙ ap (λ x. same_dart (L x) (L (whole d))) (w false)) in
          omega arith

      weight_same : (i : ℕ) (K : Point) (j : ℕ) → IsSlab h i K → weight_above h n i j ≡ weight_above g k (narrow g v i) j
      weight_same i K j slab =
          weight_parted g hv hs e v rest m i K slab n k j (one_count (lower_part e v) e facts.lower_in both.whole_low) (one_count (upper_part e v) e facts.upper_in both.whole_high)
          (λ z Z. one_count z z (facts.kept_edge z Z) (λ fw. both.whole_rest (record { edge = z; forward = fw }) Z))

      odd_same : (c : SlabCell) → ((K : Point) × IsSlab h c.slab K) → odd h (dart_labels (darts h)) (M d) c ≡ odd g (dart_labels (darts g)) (L (whole d)) (widened g v c)
      unfolding odd narrow
      odd_same c w = ap (λ x. x % 2 == 1) (weight_same c.slab w.0 c.place w.1)

    real_slab : (z : Edge) (b fw : Bool) → Contains hs z → (K : Point) × IsSlab h (cell_by h z b fw).slab K
    real_slab z true true Z = (right_inside h z.low, is_slab_right h z.low m.plane_more (on_own_wall h z.low m.plane_more (m.plane_more.lower_in z Z)))
    real_slab z true false Z = (right_inside h z.low, is_slab_right h z.low m.plane_more (on_own_wall h z.low m.plane_more (m.plane_more.lower_in z Z)))
    real_slab z false true Z = (left_inside h z.low, is_slab_left h z.low m.plane_more (on_own_wall h z.low m.plane_more (m.plane_more.lower_in z Z)))
    real_slab z false false Z = (right_inside h z.low, is_slab_right h z.low m.plane_more (on_own_wall h z.low m.plane_more (m.plane_more.lower_in z Z)))

    kind_by : (d : Dart) → IsDartOf h d → widened g v (left_of_dart h d) ≡ left_of_dart g (whole d) → is_outer h d ≡ is_outer g (whole d)
    kind_by d D q = odd_same d D (left_of_dart h d) (real_slab d.edge (left_of d.edge.low d.edge.high) d.forward D) ∙ ap (odd g (dart_labels (darts g)) (L (whole d))) q

    kind_low : (fw : Bool) → is_outer h (record { edge = lower_part e v; forward = fw }) ≡ is_outer g (whole (record { edge = lower_part e v; forward = fw }))
    kind_low fw = kind_by (record { edge = lower_part e v; forward = fw }) facts.lower_in (cell_low g hv hs e v rest m fw ∙ sym (ap (left_of_dart g) (both.whole_low fw)))

    -- the kind of a dart is that of the whole one
    pub kind_same : (d : Dart) → IsDartOf h d → is_outer h d ≡ is_outer g (whole d)
    kind_same = sorted (λ d. is_outer h d ≡ is_outer g (whole d)) kind_low
        (λ fw. one_kind_each.kind h (record { edge = upper_part e v; forward = fw }) (record { edge = lower_part e v; forward = fw }) m.plane_more (high_low fw) ∙ kind_low fw ∙ ap (is_outer g) (both.whole_low fw ∙ sym (both.whole_high fw)))
        (λ d D. kind_by d (facts.kept_edge d.edge D) (cell_rest g hv hs e v rest m d.edge D d.forward ∙ sym (ap (left_of_dart g) (both.whole_rest d D))))

    -- and so is the face on its left
    pub dart_same : (d : Dart) → IsDartOf h d → SameFace g (widened g v (left_of_dart h d)) (left_of_dart g (whole d))
    dart_same = sorted (λ d. SameFace g (widened g v (left_of_dart h d)) (left_of_dart g (whole d)))
        (λ fw. face_at g _ _ (cell_low g hv hs e v rest m fw ∙ sym (ap (left_of_dart g) (both.whole_low fw))))
        (λ fw. face_trans g _ _ _ (face_down g h v facts.new (alike g hv hs e v rest m) _ _ (one_kind_each.face h (record { edge = upper_part e v; forward = fw }) (record { edge = lower_part e v; forward = fw }) m.plane_more (high_low fw)))
        (face_at g _ _ (cell_low g hv hs e v rest m fw ∙ sym (ap (left_of_dart g) (both.whole_high fw)))))
        (λ d D. face_at g _ _ (cell_rest g hv hs e v rest m d.edge D d.forward ∙ sym (ap (left_of_dart g) (both.whole_rest d D))))
