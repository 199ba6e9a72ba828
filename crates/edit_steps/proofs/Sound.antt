-- Each step fits the graph that it meets.
use Rattle.std.proofs.Common.{◌≡◌, ℕ, List, ◌++◌, Bool, true, false, cond, not, ◌&&◌, refl, sym, ap, ◌∙◌, subst, ⊎_elim}
use Rattle.std.specs.List.{list_any, filter}
use Rattle.exact_plane.specs.Point.{Point}
use Rattle.exact_plane.specs.PointOrder.{point_cmp}
use Rattle.exact_plane.specs.PointOrderLaws.{and_true}
use Rattle.plane_graphs.specs.Line.{same_point, IsProper}
use Rattle.plane_graphs.specs.Ascending.{place, Member}
use Rattle.plane_graphs.specs.Piece.{Piece}
use Rattle.plane_graphs.specs.Graph.{Mark, mark_cmp, graph_over, is_at, marks, inside, mark, same_curve}
use Rattle.edit_steps.specs.Steps.{MergeEdge, RemoveVertex, AddCurve, AddEdge, RemoveCurve, RemoveEdge, vertex_step_by, tidy_step, more_step, less_step}
use Rattle.plane_graphs.specs.Plane.{IsPlane}
use Rattle.edit_steps.specs.Allowed.{IsAllowed, IsSound, IsPassed}
use Rattle.plane_graphs.proofs.Ascending.{IsAscending-place}
use Rattle.plane_graphs.proofs.Lists.{and_in, not_out, of_place, any_in, any_out, any_none, of_filter, IsAscending-filter, in_right}
use Rattle.plane_graphs.proofs.Order.{lt_in, same_out, same_itself, curve_out, mark_cmp_total, mark_cmp_exact}
use Rattle.plane_graphs.proofs.Marks.{mark_path, mark_out, mark_in}
use Rattle.plane_graphs.proofs.Closed.{IsClosed, mark_line}
use Rattle.plane_graphs.proofs.Inner.{kind, one_edge, low_half, high_half, new_in}
use Rattle.edit_steps.proofs.Split.{step_is, vertex_step}
use Rattle.edit_steps.proofs.Tidy.{touches, passed, ends_there, starts_there, vertex_less}
use Rattle.edit_steps.proofs.Folds.{closed_place}
use Rattle.plane_graphs.proofs.Plane.{plane_over, plane_part}
use Rattle.edit_steps.proofs.Changes.{with_marks, more_is, less_is, this, IsMidway, IsLeft}
use Rattle.integers.proofs.Tests.{not_true}

module _ (ks : List Piece) (pins : List Point) (vs : List Point) (cl : IsClosed vs ks) (r : Point) (pr : IsProper r) (new : Member r vs → ⊥) where
  vertex_allowed : IsAllowed (vertex_step_by r (marks vs ks)) (graph_over vs ks pins)
  unfolding IsAllowed
  vertex_allowed =
      ⊎_elim
      (λ h. subst (λ s. IsAllowed s (graph_over vs ks pins)) (sym h.3) (record { proper = pr; new = new }, any_in (λ m. is_at h.0.low h.0.high m && inside r m) h.0 (marks vs ks) h.1 (and_in (and_in (same_itself h.0.low) (same_itself h.0.high)) h.2)))
      (λ h. subst (λ s. IsAllowed s (graph_over vs ks pins)) (sym h.1) (record { proper = pr; new = new }, λ m k. not_true (inside r m) (λ e. h.0 m k e)))
      (step_is r (marks vs ks))

  pub vertex_sound : IsSound (vertex_step_by r (marks vs ks)) (graph_over vs ks pins)
  vertex_sound = record { allowed = vertex_allowed; plane = subst IsPlane (sym (vertex_step vs ks pins cl r pr new)) (plane_over (place point_cmp r vs) ks (closed_place vs ks r cl pr) pins) }

  pub is_passed : list_any (touches r) (marks (place point_cmp r vs) ks) ≡ true → IsPassed (graph_over (place point_cmp r vs) ks pins) r
  is_passed h =
      let q = passed vs ks cl r pr new h in
      let m = q.edge in
      let i = q.inner in
      let more : List Mark = marks (place point_cmp r vs) ks in
      record {
        low = m.low;
        high = m.high;
        below = lt_in i.low;
        above = lt_in i.high;
        straight = mark_line vs ks cl m i.is r pr ∙ i.line;
        curve = m.curve;
        some = mark_in (place point_cmp r vs) ks (mark m.low r m.curve) (low_half vs ks cl r pr new m i);
        only = q.all;
        onwards = λ c k.
            let a = ends_there vs ks cl r pr new (mark m.low r c) (kind vs ks cl r pr new (mark m.low r c) (mark_out (place point_cmp r vs) ks (mark m.low r c) k)) refl in
            let e = one_edge vs ks cl r pr new a.0 m a.1 i in
            subst (λ n. Member n more) (mark_path (mark r a.0.high a.0.curve) r m.high c refl e.1 (sym (ap (λ (z : Mark). z.curve) a.2))) (mark_in (place point_cmp r vs) ks (mark r a.0.high a.0.curve) (high_half vs ks cl r pr new a.0 a.1));
        back = λ c k.
            let a = starts_there vs ks cl r pr new (mark r m.high c) (kind vs ks cl r pr new (mark r m.high c) (mark_out (place point_cmp r vs) ks (mark r m.high c) k)) refl in
            let e = one_edge vs ks cl r pr new a.0 m a.1 i in
            subst (λ n. Member n more) (mark_path (mark a.0.low r a.0.curve) m.low r c e.0 refl (sym (ap (λ (z : Mark). z.curve) a.2))) (mark_in (place point_cmp r vs) ks (mark a.0.low r a.0.curve) (low_half vs ks cl r pr new a.0 a.1));
      }

  tidy_allowed : IsAllowed (tidy_step r (graph_over (place point_cmp r vs) ks pins)) (graph_over (place point_cmp r vs) ks pins)
  unfolding IsAllowed tidy_step
  tidy_allowed = by (list_any (touches r) (marks (place point_cmp r vs) ks)) refl
    where
      by : (b : Bool) → list_any (touches r) (marks (place point_cmp r vs) ks) ≡ b → IsAllowed (cond b (MergeEdge r) (RemoveVertex r)) (graph_over (place point_cmp r vs) ks pins)
      by true e = (new_in vs r, is_passed e)
      by false e = (new_in vs r, λ m k. not_true (touches r m) (λ h. any_none (touches r) m (marks (place point_cmp r vs) ks) e k h))

  pub tidy_sound : IsSound (tidy_step r (graph_over (place point_cmp r vs) ks pins)) (graph_over (place point_cmp r vs) ks pins)
  tidy_sound = record { allowed = tidy_allowed; plane = subst IsPlane (sym (vertex_less vs ks pins cl r pr new)) (plane_over vs ks cl pins) }

-- ---- a mark of new pieces, which are all of one curve
module _ (vs : List Point) (ks js : List Piece) (pins : List Point) (cl : IsClosed vs (ks ++ js)) (fresh : (j k : Piece) → Member j ks → Member k js → j.curve ≡ k.curve → ⊥) (one : (j k : Piece) → Member j js → Member k js → j.curve ≡ k.curve) where
  of_new : (m n : Mark) → Member m (marks vs js) → Member n (marks vs js) → n.curve ≡ m.curve
  of_new m n g h =
      let i = mark_out vs js n h in
      let k = mark_out vs js m g in
      i.curve ∙ one i.piece k.piece i.here k.here ∙ sym k.curve

  whole : (m : Mark) → Member m (marks vs js) → Member m (marks vs (ks ++ js))
  whole m h = let i = mark_out vs js m h in mark_in vs (ks ++ js) m (record { piece = i.piece; here = in_right i.piece ks js i.here; curve = i.curve; low_in = i.low_in; high_in = i.high_in; next = i.next })

  module _ (m : Mark) (xs : List Mark) (h : IsMidway (marks vs ks) (marks vs js) (marks vs (ks ++ js)) m xs) where
    never : Member m xs → ⊥
    never i = ⊎_elim (λ j. let o = mark_out vs ks m j in let k = mark_out vs js m h.here in fresh o.piece k.piece o.here k.here (sym o.curve ∙ k.curve)) (λ j. j.1 refl) (h.origin m i)

    no_edge : list_any (is_at m.low m.high) (marks vs ks) ≡ false → (n : Mark) → Member n xs → is_at m.low m.high n ≡ true → ⊥
    no_edge e n i at =
        ⊎_elim (λ j. any_none (is_at m.low m.high) n (marks vs ks) e j at)
        (λ j. let w = and_true (same_point n.low m.low) (same_point n.high m.high) at in j.1 (mark_path n m.low m.high m.curve (same_out n.low m.low w.0) (same_out n.high m.high w.1) (of_new m n h.here j.0))) (h.origin n i)

    more_allowed : IsAllowed (more_step (graph_over vs ks pins) m) (with_marks (graph_over vs ks pins) xs)
    unfolding IsAllowed more_step
    more_allowed = by (list_any (is_at m.low m.high) (marks vs ks)) refl
      where
        by : (b : Bool) → list_any (is_at m.low m.high) (marks vs ks) ≡ b → IsAllowed (cond b (AddCurve m.low m.high m.curve) (AddEdge m.low m.high m.curve)) (with_marks (graph_over vs ks pins) xs)
        by true e = let w = any_out (is_at m.low m.high) (marks vs ks) e in (any_in (is_at m.low m.high) w.0 xs (h.kept w.0 w.1) w.2, never)
        by false e =
            let i = mark_out vs js m h.here in
            (i.low_in, i.high_in, lt_in i.next.lt, not_true (list_any (is_at m.low m.high) xs) (λ f. let w = any_out (is_at m.low m.high) xs f in no_edge e w.0 w.1 w.2))

    pub more_sound : IsSound (more_step (graph_over vs ks pins) m) (with_marks (graph_over vs ks pins) xs)
    more_sound = record {
      allowed = more_allowed;
      plane = subst IsPlane (sym (more_is (graph_over vs ks pins) (with_marks (graph_over vs ks pins) xs) m))
          (plane_part (graph_over vs (ks ++ js) pins) (plane_over vs (ks ++ js) cl pins) (place mark_cmp m xs) pins (IsAscending-place mark_cmp mark_cmp_total m xs h.ascend)
          (λ n i. ⊎_elim (λ e. subst (λ z. Member z (marks vs (ks ++ js))) (sym e) (whole m h.here)) (λ j. h.part n j) (of_place mark_cmp mark_cmp_total mark_cmp_exact n m xs i)));
    }

-- ---- a mark of a curve that goes
module _ (vs : List Point) (ks : List Piece) (pins : List Point) (cl : IsClosed vs ks) (ends : List Mark) (c : ℕ) (stays : (n : Mark) → Member n (marks vs ks) → same_curve n.curve c ≡ false → Member n ends)
    (m : Mark) (of_c : same_curve m.curve c ≡ true) (xs : List Mark) (h : IsLeft (graph_over vs ks pins) ends m xs) where
  at_itself : is_at m.low m.high m ≡ true
  at_itself = and_in (same_itself m.low) (same_itself m.high)

  less_allowed : IsAllowed (less_step (graph_over vs ks pins) m) (with_marks (graph_over vs ks pins) xs)
  unfolding IsAllowed less_step
  less_allowed = by (list_any (λ n. is_at m.low m.high n && not (same_curve n.curve m.curve)) (marks vs ks)) refl
    where
      by : (b : Bool) → list_any (λ n. is_at m.low m.high n && not (same_curve n.curve m.curve)) (marks vs ks) ≡ b → IsAllowed (cond b (RemoveCurve m.low m.high m.curve) (RemoveEdge m.low m.high)) (with_marks (graph_over vs ks pins) xs)
      by true e =
          let w = any_out (λ n. is_at m.low m.high n && not (same_curve n.curve m.curve)) (marks vs ks) e in
          let v = and_true (is_at m.low m.high w.0) (not (same_curve w.0.curve m.curve)) w.2 in
          let other : same_curve w.0.curve c ≡ false = ap (λ d. same_curve w.0.curve d) (sym (curve_out m.curve c of_c)) ∙ not_out (same_curve w.0.curve m.curve) v.1 in
          (h.here, any_in (λ n. is_at m.low m.high n && not (same_curve n.curve m.curve)) w.0 xs (h.kept w.0 (stays w.0 w.1 other)) w.2)
      by false e = any_in (is_at m.low m.high) m xs h.here at_itself

  pub less_sound : IsSound (less_step (graph_over vs ks pins) m) (with_marks (graph_over vs ks pins) xs)
  less_sound = record {
    allowed = less_allowed;
    plane = subst IsPlane (sym (less_is (graph_over vs ks pins) (with_marks (graph_over vs ks pins) xs) m h.part))
        (plane_part (graph_over vs ks pins) (plane_over vs ks cl pins) (filter (λ n. not (this m n)) xs) pins (IsAscending-filter mark_cmp (λ n. not (this m n)) xs h.ascend) (λ n i. h.part n (of_filter (λ n. not (this m n)) n xs i).0));
  }
