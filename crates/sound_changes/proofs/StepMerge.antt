-- Two edges in one, where a vertex without a pin goes.
use Rattle.std.proofs.Common.{◌≡◌, ◌≢◌, ℕ, List, [], false, ◌&&◌, refl, sym, ap, ◌∙◌, subst, inl, inr}
use Rattle.std.specs.List.{flat_map}
use Rattle.exact_plane.specs.Point.{Point}
use Rattle.exact_plane.specs.PointOrderLaws.{and_true}
use Rattle.plane_graphs.specs.Ascending.{Member}
use Rattle.plane_graphs.specs.Line.{same_point}
use Rattle.plane_graphs.specs.Graph.{Graph, Mark, mark, mark_cmp, same_curve}
use Rattle.plane_graphs.proofs.Lists.{and_in, clash, if_true, if_false, if_out, if_one, one_if, in_flat_map, of_flat_map, in_ascending, of_ascending}
use Rattle.plane_graphs.proofs.Order.{same_in, same_out, same_itself, curve_in, mark_cmp_total, mark_cmp_exact}
use Rattle.slab_laws.specs.declared.names.DartId.{DartId}
use Rattle.slab_laws.specs.declared.names.VertexId.{VertexId}
use Rattle.slab_laws.specs.Sound.{IsNamed, IsGraphSound}
use Rattle.slab_laws.specs.View.{View, HasVertex, HasDart, point_in, pinned_in, source_in, twin_in, target_in}
use Rattle.sound_changes.specs.ChangeFits.{FitsMerge}
use Rattle.sound_changes.specs.SplitHalves.{IsHalved}
use Rattle.sound_changes.proofs.SplitHalves.{not_n}
use Rattle.edit_steps.specs.Steps.{MergeEdge as MergeEdgeAt, merged_marks, marks_across, apply}
use Rattle.arr_notes.specs.declared.change.Change.TheVariants.{MergeEdge}
use Rattle.arr_notes.specs.Curves.{Curves, AreCurvesOf, step_curves}
use Rattle.arr_notes.specs.Step.{merge_edge}
use Rattle.arr_notes.proofs.Names.{cases_dart}
use Rattle.arr_notes.specs.RecordGraph.{drawn_graph}
use Rattle.sound_views.specs.RecordGraphLaws.{IsMarkOf}
use Rattle.sound_changes.specs.StepLaws.{IsApplied}
use Rattle.sound_changes.proofs.StepGraphs.{IsWithin, applied}
use Rattle.sound_changes.proofs.StepHolds.{held_mark}
use Rattle.sound_changes.proofs.Merges.{named as joined_named}
use Rattle.sound_changes.proofs.StepMergeEdges.{joined}
use Rattle.sound_changes.proofs.StepSplitEdge.{IsPartedAt, Part, part_of, of_part, whole_labelled, Whole, whole_of, of_whole, distinct, backward_m}
use Rattle.sound_changes.proofs.StepSplitEdge.Part.{lower, upper, kept_too}
use Rattle.sound_changes.proofs.StepSplitEdge.Whole.{whole, kept}
use Rattle.sound_changes.proofs.StepRemoveVertex.{points_from, points_into, pins_from, pins_into}
use Rattle.sound_changes.proofs.StepCases.{at_name, at_other}
use Rattle.integers.proofs.Tests.{not_true}

module _ (v : View) (w : VertexId) (d n : DartId) (s : IsGraphSound v) (c : FitsMerge v w d n) where
  abbrev t : DartId
  t = twin_in v d

  abbrev m : DartId
  m = twin_in v n

  abbrev g : View
  g = merge_edge v w d n

  abbrev P : Point
  P = point_in v w

  abbrev A : Point
  A = point_in g (source_in g d)

  abbrev B : Point
  B = point_in g (source_in g t)

  parted : IsPartedAt g v d t n m w P
  parted = joined v w d n s c

  i : IsHalved g v d t n m w
  i = parted.halved

  named : IsNamed g
  named = joined_named v w d n s c

  -- the point of a vertex that stays isn't that of w
  elsewhere_than_w : (u : VertexId) → HasVertex g u → point_in g u ≢ P
  elsewhere_than_w u o e = i.w_new (subst (HasVertex g) (s.drawn.points u w (i.vertex_has u o) i.w_has (i.vertex_point u o ∙ e)) o)

  low_apart : A ≢ P
  low_apart = distinct g v d t n m w P parted A P parted.before

  module _ (h : Curves) (a : AreCurvesOf v h) (loose : pinned_in v w ≡ false) (alike : h d ≡ h n) where
    abbrev merged : Curves
    merged = step_curves h (MergeEdge w d n)

    abbrev marks : List Mark
    marks = (drawn_graph v h).marks

    abbrev after : Graph
    after = apply (MergeEdgeAt P) (drawn_graph v h)

    elsewhere : (x : DartId) → x ≢ n → merged x ≡ h x
    elsewhere x ne = at_other x n [] (h x) ne

    old : (x : DartId) → HasDart g x → h x ≡ merged x
    old x o = sym (elsewhere x (not_n g v d t n m w i x o))

    upper_curves : h n ≡ merged d
    upper_curves = sym alike ∙ old d i.has_d

    abbrev IsWhole : Mark → Type 0
    IsWhole k = Whole g v d t n m w P parted merged h upper_curves old named s.named k

    abbrev IsPart : Mark → Type 0
    IsPart k = Part g v d t n m w P parted merged h upper_curves old named s.named k

    there : (k : Mark) → IsPart k → Member k marks
    there k x = of_part g v d t n m w P parted merged h upper_curves old named s.named k x

    part : (k : Mark) → Member k marks → IsPart k
    part k e = let y = held_mark v s.named h k e in part_of g v d t n m w P parted merged h upper_curves old named s.named k y.0 y.1.forward.0 y.1

    -- the marks of other edges don't end at w
    low_kept : (k : Mark) (x : DartId) → IsMarkOf g merged k x → k.low ≢ P
    low_kept k x y e = elsewhere_than_w (source_in g x) (parted.sourced x y.forward.0) (y.low ∙ e)

    high_kept : (k : Mark) (x : DartId) → IsMarkOf g merged k x → k.high ≢ P
    high_kept k x y e = elsewhere_than_w (target_in g x) (parted.sourced (twin_in g x) (parted.twinned.has x y.forward.0)) (y.high ∙ e)

    not_same : (q r : Point) → q ≢ r → same_point q r ≡ false
    not_same q r ne = not_true (same_point q r) (λ e. ne (same_out q r e))

    into_merged : (k : Mark) → IsWhole k → Member k (flat_map (merged_marks P marks) marks)
    into_merged k (whole j y q) =
        let across = in_flat_map (marks_across P (mark A P j)) (mark P B j) k marks (there (mark P B j) (upper j y refl)) (if_one (same_point P P && same_curve j j) k (mark A B j) (and_in (same_itself P) (curve_in j j refl)) q) in
        in_flat_map (merged_marks P marks) (mark A P j) k marks (there (mark A P j) (lower j y refl))
        (if_false (same_point A P) k _ _ (not_same A P low_apart) (if_true (same_point P P) k _ _ (same_itself P) across))
    into_merged k (kept x y ne) =
        in_flat_map (merged_marks P marks) k k marks (there k (kept_too x y ne))
        (if_false (same_point k.low P) k _ _ (not_same k.low P (low_kept k x y)) (if_false (same_point k.high P) k _ _ (not_same k.high P (high_kept k x y)) (inl refl)))

    -- a mark that begins at w is one of the upper part
    upper_only : (o k : Mark) (j : ℕ) → Member j (merged d) → IsPart o → o.low ≡ P → k ≡ mark A o.high j → IsWhole k
    upper_only o k j y (lower l x q) e f = absurd (low_apart (sym (ap (λ z. z.low) q) ∙ e))
    upper_only o k j y (upper l x q) e f = whole j y (f ∙ (λ u. mark A (q u).high j))
    upper_only o k j y (kept_too x z ne) e f = absurd (low_kept o x z e)

    merged_of : (k o : Mark) → IsPart o → Member k (merged_marks P marks o) → IsWhole k
    merged_of k o (lower j y q) e =
        elim (if_out (same_point o.low P) k _ _ e) [
          | inl e ↦ absurd e.1
          | inr e ↦ elim (if_out (same_point o.high P) k _ _ e.1) [
            | inl e ↦
                let r = of_flat_map (marks_across P o) k marks e.1 in
                let f = one_if (same_point r.0.low P && same_curve r.0.curve o.curve) k (mark o.low r.0.high o.curve) r.2 in
                upper_only r.0 k j y (part r.0 r.1) (same_out r.0.low P (and_true (same_point r.0.low P) (same_curve r.0.curve o.curve) f.0).0) (f.1 ∙ (λ u. mark (q u).low r.0.high (q u).curve))
            | inr e ↦ clash (same_in o.high P (ap (λ z. z.high) q)) e.0
          ]
        ]
    merged_of k o (upper j y q) e =
        elim (if_out (same_point o.low P) k _ _ e) [
          | inl e ↦ absurd e.1
          | inr e ↦ clash (same_in o.low P (ap (λ z. z.low) q)) e.0
        ]
    merged_of k o (kept_too x y ne) e =
        elim (if_out (same_point o.low P) k _ _ e) [
          | inl e ↦ absurd e.1
          | inr e ↦ elim (if_out (same_point o.high P) k _ _ e.1) [
            | inl e ↦ absurd (high_kept o x y (same_out o.high P e.0))
            | inr e ↦ elim e.1 [ inl r ↦ kept x (subst (λ z. IsMarkOf g merged z x) (sym r) y) ne | inr r ↦ absurd r ]
          ]
        ]

    of_merged : (k : Mark) → Member k (flat_map (merged_marks P marks) marks) → IsWhole k
    of_merged k e = let r = of_flat_map (merged_marks P marks) k marks e in merged_of k r.0 (part r.0 r.1) r.2

    merge_from : IsWithin (drawn_graph g merged) after
    unfolding apply drawn_graph
    merge_from = record {
      points = points_from v w s i.w_has loose h;
      marks = λ k e. let y = held_mark g named merged k e in in_ascending mark_cmp mark_cmp_total mark_cmp_exact k _ (into_merged k (whole_of g v d t n m w P parted merged h upper_curves old named s.named k y.0 y.1));
      pins = pins_from v w s i.w_has loose h;
    }

    merge_into : IsWithin after (drawn_graph g merged)
    unfolding apply drawn_graph
    merge_into = record {
      points = points_into v w s i.w_has loose h;
      marks = λ k e. of_whole g v d t n m w P parted merged h upper_curves old named s.named k (of_merged k (of_ascending mark_cmp mark_cmp_total mark_cmp_exact k _ e));
      pins = pins_into v w s i.w_has loose h;
    }

    -- the names that went have no curves, m had none before
    none_gone : (x : DartId) → ¬ HasDart g x → merged x ≡ []
    none_gone x none = elim (cases_dart x n) [
      | inl e ↦ ap merged e ∙ at_name n [] (h n)
      | inr nn ↦ elsewhere x nn ∙ elim (cases_dart x m) [
        | inl e ↦ ap h e ∙ a.backward m (not_true _ (backward_m g v d t n m w P parted))
        | inr nm ↦ a.without_dart x (λ o. none (i.had x o nn nm))
      ]
    ]

    right : AreCurvesOf g merged
    right = whole_labelled g v d t n m w P parted merged h upper_curves old named s.named a none_gone

    pub edge_merged : IsApplied v h (MergeEdge w d n)
    edge_merged = applied v h (MergeEdge w d n) right merge_from merge_into
