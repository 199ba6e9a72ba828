-- A look at an edge that whole parts tell to be beside the point, above it, or below the highest edge so far.
use Rattle.std.proofs.Common.{◌≡◌, true, false, pos, ◌<ℤ◌, arith, cond, refl, sym, ap, ◌∙◌, inl, inr, subst}
use Rattle.std.specs.Prelude.{ℤ, Bool, Option, Some, None, if◌then◌else◌}
use Rattle.std.specs.Int.{int_min}
use Rattle.std.proofs.lemmas.Bool.{cases_Bool, false≢true}
use Rattle.std.proofs.lemmas.Int.{ints, int_min_is}
use Rattle.integers.proofs.Decisions.{both, lt_out, or_out}
use Rattle.exact_plane.specs.Point.{Point}
use Rattle.exact_plane.specs.WholeParts.{whole_parts, are_less, are_greater, excludes_across, excludes_along, is_left_or_right_of, bounding_box}
use Rattle.exact_plane.specs.declared.whole_parts.BoundingBox.{BoundingBox}
use Rattle.plane_graphs.specs.Graph.{Edge as PlaneEdge}
use Rattle.plane_graphs.specs.Line.{IsProper, precedes as forward_to}
use Rattle.slab_laws.specs.declared.names.DartId.{DartId}
use Rattle.slab_laws.specs.declared.names.FaceId.{FaceId}
use Rattle.slab_laws.specs.Skeleton.{HasWeight, lower_than, precedes, side, under}
use Rattle.slab_laws.specs.Sound.{skeleton_of, dart_in, edge_in, IsGraphSound}
use Rattle.slab_laws.specs.SpansDrawn.{edge_of}
use Rattle.slab_laws.specs.View.{View, Faces, HasDart, point_in, source_in, target_in, twin_in}
use Rattle.slab_faces.proofs.OverUnder.{under_in, under_out}
use Rattle.slab_faces.proofs.Walls.{lower_than-irrefl}
use Rattle.sound_views.specs.ForwardDarts.{IsForwardOf}
use Rattle.sound_views.proofs.ForwardDarts.{is_ahead, is_behind, target_has}
use Rattle.sound_views.proofs.GraphDrawn.{between_forward}
use Rattle.sound_views.proofs.NamedDarts.{edge_known}
use Rattle.counted_looks.specs.Looks.{IsLookOf}
use Rattle.counted_looks.specs.declared.boundary_part.BoundaryPart.TheVariants.{Dart}
use Rattle.counted_looks.specs.declared.glance.Looked.{Looked}
use Rattle.dcel_records.specs.RecordsView.{tables_of}
use Rattle.dcel_records.specs.declared.spot.Spot.TheVariants.{Edge}
use Rattle.edge_predicates.specs.Above.{is_above}
use Rattle.edge_predicates.specs.Highest.{IsSpanning}
use Rattle.edge_predicates.specs.Levels.{IsSeen}
use Rattle.face_location.proofs.Passings.{apart_past}
use Rattle.locate_walk.specs.Finds.{IsFound, IsFoundAtDart}
use Rattle.locate_walk.specs.Looks.{higher_edge, is_beyond, taken, HasLooked, IsBelowOrNone}
use Rattle.locate_walk.specs.declared.found.EdgeBelow.{EdgeBelow}
use Rattle.locate_walk.specs.declared.found.Found.{Found}
use Rattle.locate_walk.specs.declared.found.Found.TheVariants.{Below, Past}
use Rattle.locate_walk.specs.declared.highest.Highest.{Highest}
use Rattle.locate_walk.proofs.Finds.{beside_found, spanning_off, aside_outside}
use Rattle.locate_walk.proofs.Heights.{IsLower, spanned_over, lower_not_above, under_lower, lower_by_whole}

module _ (v : View) (f : Faces) (s : IsGraphSound v) (q : Point) (Q : IsProper q) (d : DartId) (has : HasDart v d) where
  abbrev low : Point
  low = point_in v (source_in v d)

  abbrev high : Point
  high = point_in v (target_in v d)

  low_proper : IsProper low
  low_proper = s.drawn.proper (source_in v d) (s.linked.source d has)

  high_proper : IsProper high
  high_proper = s.drawn.proper (target_in v d) (target_has v s d has)

  -- what is true of both ends of the dart is true of those of its edge
  of_ends : (P : Point → Type 0) → P low → P high → P (edge_in v d).low × P (edge_in v d).high
  of_ends P a b = elim (cases_Bool (forward_to low high)) [
    | inl h ↦ subst (λ (e : PlaneEdge). P e.low × P e.high) (sym (between_forward low high h)) (a, b)
    | inr h ↦
        let e : edge_in v d ≡ record { low = high; high = low } = ap (λ (c : Bool). if c then record { low = low; high = high } else record { low = high; high = low }) h in
        subst (λ (e : PlaneEdge). P e.low × P e.high) (sym e) (b, a)
  ]

  -- ---- above the point
  above_past : lower_than q low ≡ true → lower_than q high ≡ true → IsFoundAtDart v f q d Past
  above_past a b =
      let k = of_ends (λ x. lower_than q x ≡ true) a b in
      let over : IsSpanning (edge_in v d) q → side (edge_in v d) q <ℤ pos 0 = λ y. spanned_over (edge_in v d) q Q.positive y k.0 k.1 in (
        record {
          off_source = λ e. false≢true (sym (lower_than-irrefl q) ∙ ap (lower_than q) (sym e) ∙ a);
          off_target = λ e. false≢true (sym (lower_than-irrefl q) ∙ ap (lower_than q) (sym e) ∙ b);
        },
        record {
          outside = aside_outside (edge_in v d) q (λ y z. let n = over y in absurd (omega (arith, ints)));
          unseen = λ y. let n = over y.spanning in let u = under_out (edge_in v d) q y.lies_under in absurd (omega (arith, ints));
        },
      )

  -- ---- below both ends of an edge that it sees
  module _ (b : EdgeBelow) (p : IsBelowOrNone v q (Some b)) where
    abbrev g : PlaneEdge
    g = edge_of b.edge

    g_spans : IsSpanning g q
    g_spans = subst (λ (e : PlaneEdge). IsSpanning e q) (sym p.1) p.0.1.spanning

    g_under : under g q ≡ true
    g_under = ap (λ (e : PlaneEdge). under e q) p.1 ∙ p.0.1.lies_under

    g_weights : HasWeight g.low × HasWeight g.high
    g_weights = subst (λ (e : PlaneEdge). HasWeight e.low × HasWeight e.high) (sym p.1) (s.plane.proper_edge (edge_in v b.dart) p.0.1.in')

    -- both ends of g are above the point
    abbrev IsLowerEnd : Point → Type 0
    IsLowerEnd x = (lower_than x g.low ≡ true) × (lower_than x g.high ≡ true)

    off_end : (x : Point) → IsLowerEnd x → x ≡ q → ⊥
    off_end x h e =
        let n = spanned_over g q Q.positive g_spans (subst (λ y. lower_than y g.low ≡ true) e h.0) (subst (λ y. lower_than y g.high ≡ true) e h.1) in
        let u = under_out g q g_under in
        absurd (omega (arith, ints))

    forward : (r : DartId) × IsForwardOf v d r
    forward = elim (cases_Bool (dart_in v d).forward) [ inl h ↦ (d, is_ahead v s d has h) | inr h ↦ (twin_in v d, is_behind v s d has h (twin_in v d) refl) ]

    module _ (x : IsLowerEnd low) (y : IsLowerEnd high) where
      lower_past : (IsSpanning (edge_in v d) q → ⊥) → IsFoundAtDart v f q d Past
      lower_past n = (record { off_source = off_end low x; off_target = off_end high y }, apart_past v d q n)

      lower_below : IsSpanning (edge_in v d) q → (c : EdgeBelow) × IsFoundAtDart v f q d (Below c) × (higher_edge (Some b) c ≡ b)
      lower_below k =
          let w = forward in
          let c : EdgeBelow = record { dart = w.0; edge = record { lower = (edge_in v w.0).low; upper = (edge_in v w.0).high; line = b.edge.line } } in
          let weights = of_ends HasWeight low_proper.positive high_proper.positive in
          let ends = of_ends IsLowerEnd x y in
          let l : IsLower (edge_in v d) g q = record {
            weights = (weights.0, weights.1, g_weights.0, g_weights.1, Q.positive);
            spans = k;
            spanned = g_spans;
            low_low = ends.0.0;
            low_high = ends.0.1;
            high_low = ends.1.0;
            high_high = ends.1.1;
          } in
          let up : pos 0 <ℤ side (edge_in v d) q = under_lower (edge_in v d) g q l g_under in
          let seen : IsSeen (skeleton_of v) q (edge_in v d) = record { in' = edge_known v d has; spanning = k; lies_under = under_in (edge_in v d) q up } in
          let no : is_above (edge_in v w.0) g ≡ false = ap (λ (e : PlaneEdge). is_above e g) w.1.edge ∙ lower_not_above (edge_in v d) g q l in (
            c,
            (
              spanning_off v s q Q d has k,
              record {
                outside = aside_outside (edge_in v d) q (λ i z. absurd (omega (arith, ints)));
                along = w.1.edge;
                seen = (w.1.forward, subst (IsSeen (skeleton_of v) q) (sym w.1.edge) seen);
              },
              refl,
            ),
            ap (λ t. cond t c b) no,
          )

      -- what is found there changes nothing
      abbrev Kept : FaceId → Type 0
      Kept a = (r : Found) × IsFound v f q a (Dart d) r × ((h : Highest) → h.best ≡ Some b → h ≡ taken h r)

      past_kept : (a : FaceId) → (IsSpanning (edge_in v d) q → ⊥) → Kept a
      past_kept a n = (Past, λ own. lower_past n, λ h i. refl)

      lower_kept : (a : FaceId) → Kept a
      lower_kept a = elim (cases_Bool (precedes (edge_in v d).low q)) [
        | inl m ↦ elim (cases_Bool (precedes q (edge_in v d).high)) [
          | inl n ↦
              let k = lower_below (record { from = m; to = n }) in
              (Below k.0, k.1, λ h i. ap (λ (o : Option EdgeBelow). record h { best = o }) (i ∙ ap Some (sym k.2) ∙ ap (λ (o : Option EdgeBelow). Some (higher_edge o k.0)) (sym i)))
          | inr n ↦ past_kept a (λ k. false≢true (sym n ∙ k.to))
        ]
        | inr m ↦ past_kept a (λ k. false≢true (sym m ∙ k.from))
      ]

-- ---- the lesser of two ordinates is at most each
under_least : (x y z : ℤ) → x <ℤ int_min y z → (x <ℤ y) × (x <ℤ z)
under_least x y z h = (omega (arith, ints, int_min_is y z), omega (arith, ints, int_min_is y z))

module _ (h : Highest) (d : DartId) (l : Looked) (s : IsGraphSound h.glance.now.graph) (Q : IsProper h.point) (has : HasDart h.glance.now.graph d) (look : IsLookOf h.glance.now.graph (Edge d) l) where
  abbrev v : View
  v = h.glance.now.graph

  abbrev f : Faces
  f = tables_of h.glance.now

  source_is : IsProper l.source
  source_is = subst IsProper (sym look.0) (low_proper v f s h.point Q d has)

  target_is : IsProper l.target
  target_is = subst IsProper (sym look.1) (high_proper v f s h.point Q d has)

  past_looked : IsFoundAtDart v f h.point d Past → HasLooked h (Dart d) h
  past_looked c = record { met = λ m. refl; found = λ n. (Past, λ own. c, refl) }

  -- both ends are to the left of the point, or both to its right
  pub beside_looked : is_left_or_right_of (whole_parts h.point) (whole_parts l.source) (whole_parts l.target) ≡ true → HasLooked h (Dart d) h
  beside_looked k = past_looked (beside_found v f s h.point Q d has l look k)

  -- both are above it
  pub above_looked : (whole_parts h.point).y <ℤ (whole_parts l.source).y → (whole_parts h.point).y <ℤ (whole_parts l.target).y → HasLooked h (Dart d) h
  above_looked a b =
      past_looked
      (above_past v f s h.point Q d has (subst (λ x. lower_than h.point x ≡ true) look.0 (lower_by_whole h.point l.source Q.positive source_is.positive a))
      (subst (λ x. lower_than h.point x ≡ true) look.1 (lower_by_whole h.point l.target Q.positive target_is.positive b)))

  beyond_at : (o : Option EdgeBelow) → h.best ≡ o → IsBelowOrNone v h.point o → is_beyond h.point o (whole_parts l.source) (whole_parts l.target) ≡ true → HasLooked h (Dart d) h
  beyond_at None i p e = absurd (false≢true e)
  beyond_at (Some b) i p e = elim (or_out (excludes_across box (whole_parts l.source) (whole_parts l.target)) (excludes_along box (whole_parts l.source) (whole_parts l.target)) e) [
    | inl k ↦ beside_looked k
    | inr k ↦ elim (or_out (are_less (whole_parts l.source).y (whole_parts l.target).y box.least.y) (are_greater (whole_parts l.source).y (whole_parts l.target).y box.greatest.y) k) [
      | inl m ↦
          let c = both _ _ m in
          let r = lower_kept v f s h.point Q d has b p (at_end l.source source_is _ look.0 (lt_out _ _ c.0)) (at_end l.target target_is _ look.1 (lt_out _ _ c.1)) h.face in
          record { met = λ n. refl; found = λ n. (r.0, r.1, r.2 h i) }
      | inr m ↦ let c = both _ _ m in above_looked (lt_out _ _ c.0) (lt_out _ _ c.1)
    ]
  ]
    where
      box : BoundingBox
      box = record { least = record { x = (whole_parts h.point).x; y = (bounding_box b.edge).least.y }; greatest = whole_parts h.point }

      at_end : (x : Point) → IsProper x → (z : Point) → x ≡ z → (whole_parts x).y <ℤ box.least.y → IsLowerEnd v f s h.point Q d has b p z
      at_end x X z w k =
          let a = under_least (whole_parts x).y (whole_parts b.edge.lower).y (whole_parts b.edge.upper).y k in
          let g = g_weights v f s h.point Q d has b p in
          subst (IsLowerEnd v f s h.point Q d has b p) w (lower_by_whole x b.edge.lower X.positive g.0 a.0, lower_by_whole x b.edge.upper X.positive g.1 a.1)

  pub beyond_looked : IsBelowOrNone v h.point h.best → is_beyond h.point h.best (whole_parts l.source) (whole_parts l.target) ≡ true → HasLooked h (Dart d) h
  beyond_looked = beyond_at h.best refl
