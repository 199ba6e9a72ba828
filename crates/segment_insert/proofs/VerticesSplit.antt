-- An edge is split at a point: where greater points lie, as it was told before.
use Rattle.std.proofs.Common.{◌≡◌, ◌≢◌, true, false, not, refl, sym, ap, ◌∙◌, subst, inl, inr}
use Rattle.exact_plane.specs.Point.{Point}
use Rattle.plane_graphs.specs.Graph.{Edge}
use Rattle.plane_graphs.specs.Line.{IsProper, precedes}
use Rattle.plane_graphs.proofs.Lists.{clash}
use Rattle.plane_graphs.proofs.Order.{Lt, lt_in, lt_never}
use Rattle.slab_laws.specs.declared.names.DartId.{DartId}
use Rattle.slab_laws.specs.declared.names.VertexId.{VertexId}
use Rattle.slab_laws.specs.Skeleton.{inside}
use Rattle.slab_laws.specs.Sound.{edge_in, dart_in, IsGraphSound}
use Rattle.slab_laws.specs.View.{View, HasDart, point_in, source_in, twin_in, target_in, next_in}
use Rattle.sound_changes.specs.ChangeFits.{FitsSplit}
use Rattle.sound_changes.specs.SplitHalves.{IsHalved}
use Rattle.sound_changes.proofs.SplitCases.{edge_of_ends, ahead_by, back_by}
use Rattle.sound_changes.proofs.SplitHalves.{three, not_n}
use Rattle.sound_changes.proofs.SplitHalves as halves
use Rattle.sound_changes.proofs.PointInside.{IsInside}
use Rattle.sound_changes.proofs.Splits.{halved, at_w}
use Rattle.sound_views.proofs.NamedDarts.{by_points}
use Rattle.arr_notes.specs.declared.change.Change.TheVariants.{SplitEdge}
use Rattle.arr_notes.specs.Curves.{Curves, IsForward, is_forward, step_curves}
use Rattle.arr_notes.specs.Step.{split_edge}
use Rattle.arr_notes.proofs.Names.{cases_dart, cases_vertex}
use Rattle.dcel_records.specs.Spots.{IsInFace}
use Rattle.sound_views.proofs.GraphDrawn.{twins_are_directed}
use Rattle.sound_changes.proofs.StepCases.{at_name, at_other}
use Rattle.segment_insert.specs.Coming.{LeadsTo}
use Rattle.segment_insert.specs.Coming.LeadsTo.{here, onward}
use Rattle.segment_insert.proofs.VerticesFollow.{follows_lower, follows_upper, follows_old}
use Rattle.segment_insert.proofs.VerticesInside.{from_lower, from_upper, into_upper}
use Rattle.segment_insert.proofs.VerticesWalk.{forward_edge, inside_ends, leads_forward}
use Rattle.integers.proofs.Tests.{not_true}

module _ (v : View) (b : DartId) (w : VertexId) (q : Point) (n m : DartId) (s : IsGraphSound v) (c : FitsSplit v b w q n m) where
  abbrev t : DartId
  t = twin_in v b

  abbrev g : View
  g = split_edge v b w q n m

  abbrev A : Point
  A = point_in v (source_in v b)

  abbrev B : Point
  B = point_in v (target_in v b)

  i : IsHalved v g b t n m w
  i = halved v b w q n m s c

  forward_b : IsForward v b
  forward_b = (c.dart, c.forward)

  backward_t : is_forward v t ≡ true → ⊥
  backward_t k = clash k (twins_are_directed v s b c.dart ∙ ap not c.forward)

  not_t : (d : DartId) → IsForward v d → d ≢ t
  not_t d f e = backward_t (subst (IsForward v) e f).1

  between : IsInside (edge_of_ends A B) q
  between = inside_ends v b q s forward_b c.proper c.inside_edge

  -- ---- the darts of the parts, and of other edges
  lower_dart : dart_in g b ≡ by_points A q
  lower_dart = halves.half_d v g b t n m w i s.linked.source q (at_w v b w q n m s c)

  upper_dart : dart_in g n ≡ by_points q B
  upper_dart = halves.half_n v g b t n m w i s.linked.source q (at_w v b w q n m s c)

  ahead_lower : dart_in g b ≡ record { edge = edge_of_ends A q; forward = true }
  ahead_lower = lower_dart ∙ ahead_by A q (lt_in between.after)

  ahead_upper : dart_in g n ≡ record { edge = edge_of_ends q B; forward = true }
  ahead_upper = upper_dart ∙ ahead_by q B (lt_in between.before)

  lower_forward : IsForward g b
  lower_forward = (i.has_old b c.dart, ap (λ x. x.forward) ahead_lower)

  upper_forward : IsForward g n
  upper_forward = (i.has_n, ap (λ x. x.forward) ahead_upper)

  old_way : (d : DartId) → HasDart v d → d ≢ t → d ≢ b → dart_in g d ≡ dart_in v d
  old_way d o nt nb = halves.way_old v g b t n m w i s.linked.source q (at_w v b w q n m s c) d o (s.twinned.has d o) (s.twinned.back d o) nt nb

  lower_end : point_in g (target_in g b) ≡ q
  lower_end = ap (λ x. point_in g (source_in g x)) (i.twin_old b c.dart) ∙ halves.point_t v g b t n m w i s.linked.source q (at_w v b w q n m s c)

  upper_end : point_in g (target_in g n) ≡ B
  upper_end = ap (λ x. point_in g (source_in g x)) i.twin_n ∙ halves.point_m v g b t n m w i s.linked.source q (at_w v b w q n m s c)

  old_end : (d : DartId) → HasDart v d → d ≢ b → point_in g (target_in g d) ≡ point_in v (target_in v d)
  old_end d o nb =
      ap (λ x. point_in g (source_in g x)) (i.twin_old d o)
      ∙ halves.point_old v g b t n m w i s.linked.source q (at_w v b w q n m s c) (twin_in v d) (s.twinned.has d o) (λ e. nb (sym (s.twinned.back d o) ∙ ap (twin_in v) e ∙ s.twinned.back b c.dart))

  -- ---- parts that lead to a point
  module _ (p : Point) (proper : IsProper p) (above : Lt q p) where
    whole_or_part : (e : Edge) → e ≡ edge_of_ends A B → inside (edge_in v b) p ≡ inside e p
    whole_or_part e k = ap (λ z. inside z p) (forward_edge v b forward_b ∙ sym k)

    low_proper : IsProper A
    low_proper = s.drawn.proper (source_in v b) (s.linked.source b c.dart)

    high_proper : IsProper B
    high_proper = s.drawn.proper (target_in v b) (s.linked.source t (s.twinned.has b c.dart))

    -- the point is inside the upper part, where it was inside the whole
    at_upper : inside (edge_in v b) p ≡ true → LeadsTo g p n n
    at_upper h = here (upper_forward.0, upper_forward.1, ap (λ x. inside x.edge p) ahead_upper ∙ into_upper (edge_of_ends A B) q p low_proper high_proper c.proper proper between (sym (whole_or_part (edge_of_ends A B) refl) ∙ h) above)

    from_lower_part : (x : DartId) → LeadsTo g p x n → LeadsTo g p x b
    from_lower_part x k = onward b lower_forward (ap (λ z. precedes z p) lower_end ∙ lt_in above) (subst (LeadsTo g p x) (sym (follows_lower v b w q n m s c)) k)

    from_upper_part : (x : DartId) → precedes B p ≡ true → next_in v b ≢ t → LeadsTo g p x (next_in v b) → LeadsTo g p x n
    from_upper_part x l ne k = onward n upper_forward (ap (λ z. precedes z p) upper_end ∙ l) (subst (LeadsTo g p x) (sym (follows_upper v b w q n m s c ne)) k)

    from_old : (d x : DartId) → IsForward v d → d ≢ b → precedes (point_in v (target_in v d)) p ≡ true → next_in v d ≢ t → LeadsTo g p x (next_in v d) → LeadsTo g p x d
    from_old d x f ne l nt k =
        onward d (i.has_old d f.0, ap (λ z. z.forward) (old_way d f.0 (not_t d f) ne) ∙ f.1) (ap (λ z. precedes z p) (old_end d f.0 ne) ∙ l)
        (subst (LeadsTo g p x) (sym (follows_old v b w q n m s c d f.0 ne nt)) k)

    at_old : (d : DartId) → IsForward v d → d ≢ b → inside (edge_in v d) p ≡ true → LeadsTo g p d d
    at_old d f ne h =
        let k = old_way d f.0 (not_t d f) ne in
        here (i.has_old d f.0, ap (λ z. z.forward) k ∙ f.1, ap (λ z. inside z.edge p) k ∙ h)

    module _ (h : Curves) where
      abbrev parts : Curves
      parts = step_curves h (SplitEdge b w q n m)

      pub old_curves : (d : DartId) → HasDart v d → parts d ≡ h d
      old_curves d o = at_other d n (h b) (h d) (not_n v g b t n m w i d o)

      -- what led to the point leads to it still, to a part with the same curves
      pub leads_still : (e d : DartId) → LeadsTo v p e d → (a : DartId) × LeadsTo g p a d × (parts a ≡ h e)
      leads_still e d (here j) =
          elim (cases_dart e b) [
            | inl k ↦ (n, subst (LeadsTo g p n) (sym k) (from_lower_part n (at_upper (subst (λ x. inside (edge_in v x) p ≡ true) k j.2))), at_name n (h b) (h n) ∙ ap h (sym k))
            | inr ne ↦ (e, at_old e (j.0, j.1) ne j.2, old_curves e j.0)
          ]
      leads_still e d (onward a f l k) =
          let r = leads_still e (next_in v a) k in
          let nt : next_in v a ≢ t = not_t (next_in v a) (leads_forward v p e (next_in v a) k) in
          elim (cases_dart a b) [
            | inl j ↦ (r.0, subst (LeadsTo g p r.0) (sym j) (from_lower_part r.0 (from_upper_part r.0 (subst (λ x. precedes (point_in v (target_in v x)) p ≡ true) j l) (subst (λ x. next_in v x ≢ t) j nt) (subst (λ x. LeadsTo g p r.0 (next_in v x)) j r.1))), r.2)
            | inr ne ↦ (r.0, from_old a r.0 f ne l nt r.1, r.2)
          ]

    -- ---- a point inside a face stays there
    pub face_still : IsInFace v p → IsInFace g p
    face_still o = record {
      no_vertex = λ u has e. elim (cases_vertex u w) [
        | inl k ↦ lt_never (subst (λ z. Lt z p) (sym (at_w v b w q n m s c) ∙ ap (point_in g) (sym k) ∙ e) above)
        | inr ne ↦ let k = i.vertex_had u has ne in o.no_vertex u k (sym (i.vertex_point u k) ∙ e)
      ];
      no_edge = three v g b t n m w i (λ d. inside (edge_in g d) p ≡ false)
          (outside n (edge_of_ends q B) (ap (λ z. z.edge) ahead_upper) no_upper)
          (outside m (edge_of_ends q B) (ap (λ z. z.edge) (halves.half_m v g b t n m w i s.linked.source q (at_w v b w q n m s c) ∙ back_by q B (lt_in between.before))) no_upper)
          (λ d has. elim (cases_dart d t) [
            | inl k ↦ subst (λ x. inside (edge_in g x) p ≡ false) (sym k) (outside t (edge_of_ends A q) (ap (λ z. z.edge) (halves.half_t v g b t n m w i s.linked.source q (at_w v b w q n m s c) ∙ back_by A q (lt_in between.after))) no_lower)
            | inr nt ↦ elim (cases_dart d b) [
              | inl k ↦ subst (λ x. inside (edge_in g x) p ≡ false) (sym k) (outside b (edge_of_ends A q) (ap (λ z. z.edge) ahead_lower) no_lower)
              | inr nb ↦ ap (λ z. inside z.edge p) (old_way d has nt nb) ∙ o.no_edge d has
            ]
          ]);
    }
      where
        no_whole : inside (edge_of_ends A B) p ≡ true → ⊥
        no_whole k = clash (whole_or_part (edge_of_ends A B) refl ∙ k) (o.no_edge b c.dart)

        no_upper : inside (edge_of_ends q B) p ≡ true → ⊥
        no_upper k = no_whole (from_upper (edge_of_ends A B) q p low_proper high_proper c.proper proper between k)

        no_lower : inside (edge_of_ends A q) p ≡ true → ⊥
        no_lower k = no_whole (from_lower (edge_of_ends A B) q p low_proper high_proper c.proper proper between k)

        outside : (d : DartId) (e : Edge) → edge_in g d ≡ e → (inside e p ≡ true → ⊥) → inside (edge_in g d) p ≡ false
        outside d e k none = ap (λ z. inside z p) k ∙ not_true (inside e p) none
