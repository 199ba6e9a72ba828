-- What goes: a curve, an edge, a split vertex.
use Rattle.std.proofs.Common.{◌≡◌, ℕ, [], ◌∷◌, ◌++◌, Bool, true, false, cond, not, ◌&&◌, refl, sym, ap, ◌∙◌, subst, inl, inr, ⊎_elim}
use Rattle.std.specs.List.{list_any, flat_map, filter}
use Rattle.std.specs.Prelude.{map}
use Rattle.exact_plane.specs.Point.{Point}
use Rattle.exact_plane.specs.PointOrder.{point_cmp}
use Rattle.exact_plane.specs.PointOrderLaws.{point_cmp_total, same_point as point_cmp_exact, and_true}
use Rattle.plane_graphs.specs.Line.{same_point, IsProper}
use Rattle.plane_graphs.specs.Ascending.{place, Member}
use Rattle.plane_graphs.specs.Piece.{Piece, Present, on}
use Rattle.plane_graphs.specs.Graph.{Mark, mark_cmp, graph, graph_over, is_at, marks, vertices, inside, mark, same_curve}
use Rattle.edit_steps.specs.Steps.{SplitEdge, SetPin, ClearPin, MergeEdge, RemoveEdge, RemoveVertex, apply, run, vertex_step_by, vertex_steps, tidy_step, tidy_steps, missing_points, less_step, with_tidying, without_curve, drop_steps, cut_piece, with_cut, cut_steps, with_pin, pin_steps, without_pin, unpin_steps, split_steps, merge_steps}
use Rattle.plane_graphs.specs.Plane.{IsPlane}
use Rattle.plane_graphs.specs.Fit.{IsFit}
use Rattle.edit_steps.specs.Allowed.{IsAllowed}
use Rattle.edit_steps.proofs.Sound.{less_sound}
use Rattle.plane_graphs.proofs.Ascending.{IsAscending-place}
use Rattle.plane_graphs.proofs.Lists.{not_out, not_in, clash, decide, of_place, in_place, any_in, any_out, any_none, in_filter, of_filter, IsAscending-filter, or_right}
use Rattle.plane_graphs.proofs.Order.{Lt, same_out, same_in, same_itself}
use Rattle.plane_graphs.proofs.Marks.{On, on_out, mark_out, mark_in, marks_ascend}
use Rattle.plane_graphs.proofs.Closed.{around}
use Rattle.plane_graphs.proofs.Inner.{Inner, one_edge, inner_in, low_half}
use Rattle.edit_steps.proofs.Split.{step_is}
use Rattle.edit_steps.proofs.Tidy.{touches}
use Rattle.edit_steps.proofs.Folds.{missing_sum, points_same}
use Rattle.plane_graphs.proofs.Plane.{plane_over, plane_part, no_vertex_inside}
use Rattle.edit_steps.proofs.Changes.{marks_taken}
use Rattle.plane_graphs.proofs.Vertices.{Geometry, IsVertex, vertex_in, vertex_out, vertices_ascend, vertices_closed}
use Rattle.plane_graphs.proofs.Vertices.IsVertex.{begins, finishes, pinned, crossed}
use Rattle.edit_steps.proofs.Cuts.{cut_marks, cut_sub, fit_cut}
use Rattle.edit_steps.proofs.Edits.{Leads, tidied_leads, pin_leads, unpin_leads, vertices_more, fit_part, fit_unpin, unpin_sub, crossing_more}

module _ (geo : Geometry) where
  -- ---- one curve fewer
  kept_piece : (p : Present) (c : ℕ) (k : Piece) → Member k (without_curve p c).pieces → Member k p.pieces × (same_curve k.curve c ≡ false)
  kept_piece p c k h = let w = of_filter (λ k. not (same_curve k.curve c)) k p.pieces h in (w.0, not_out _ w.1)

  pub fit_drop : (p : Present) (c : ℕ) → IsFit p → IsFit (without_curve p c)
  fit_drop p c fit = fit_part (without_curve p c) p fit (λ k h. (kept_piece p c k h).0) (λ r h. h) fit.pins_ascend

  pub drop_leads : (p : Present) → IsFit p → (c : ℕ) → Leads (drop_steps p c) (graph p) (graph (without_curve p c))
  unfolding drop_steps graph
  drop_leads p fit c =
      let vs = vertices p in
      let ks = p.pieces in
      let js = (without_curve p c).pieces in
      let of_c : Mark → Bool = λ m. same_curve m.curve c in
      let t = marks_taken (graph p) (graph_over vs ks p.pins) c (marks vs js) (filter (λ m. same_curve m.curve c) (marks vs ks)) (marks vs ks) (marks_ascend vs js) (IsAscending-filter mark_cmp (λ m. same_curve m.curve c) (marks vs ks) (marks_ascend vs ks)) (marks_ascend vs ks)
      (λ m h. h)
      (λ m h. let i = mark_out vs js m h in mark_in vs ks m (record { piece = i.piece; here = (kept_piece p c i.piece i.here).0; curve = i.curve; low_in = i.low_in; high_in = i.high_in; next = i.next }))
      (λ m h g. let i = mark_out vs js m h in clash (ap (λ n. same_curve n c) (sym i.curve) ∙ (of_filter (λ m. same_curve m.curve c) m (marks vs ks) g).1) (kept_piece p c i.piece i.here).1)
      (λ m h. let i = mark_out vs ks m h in ⊎_elim (λ e. inl (in_filter (λ m. same_curve m.curve c) m (marks vs ks) h e)) (λ e. inr (mark_in vs js m (record { piece = i.piece; here = in_filter (λ k. not (same_curve k.curve c)) i.piece ks i.here (ap (λ n. not (same_curve n c)) (sym i.curve) ∙ ap not e); curve = i.curve; low_in = i.low_in; high_in = i.high_in; next = i.next }))) (decide (same_curve m.curve c)))
      (λ m h. (of_filter (λ m. same_curve m.curve c) m (marks vs ks) h).0)
      (λ m h. (of_filter (λ m. same_curve m.curve c) m (marks vs ks) h).1)
      (λ m e xs h. less_sound vs ks p.pins (vertices_closed geo p fit) (marks vs js) c (λ n i f. let o = mark_out vs ks n i in mark_in vs js n (record { piece = o.piece; here = in_filter (λ k. not (same_curve k.curve c)) o.piece ks o.here (ap (λ d. not (same_curve d c)) (sym o.curve) ∙ ap not f); curve = o.curve; low_in = o.low_in; high_in = o.high_in; next = o.next })) m e xs h) in
      tidied_leads geo p (without_curve p c) (map (less_step (graph p)) (filter (λ m. same_curve m.curve c) (marks vs ks))) fit (fit_drop p c fit) (vertices_more (without_curve p c) p (λ k h. (kept_piece p c k h).0) (λ r h. h))
      (record { there = t.0; sound = t.1 })

  -- ---- one edge fewer
  module _ (p : Present) (fit : IsFit p) (a b : Point) (m : Mark) (h : Member m (marks (vertices p) p.pieces)) (e : is_at a b m ≡ true) where
    the_ends : (m.low ≡ a) × (m.high ≡ b)
    the_ends = let w = and_true (same_point m.low a) (same_point m.high b) e in (same_out m.low a w.0, same_out m.high b w.1)

    low_end : Member a (vertices p)
    low_end = subst (λ z. Member z (vertices p)) the_ends.0 (mark_out (vertices p) p.pieces m h).low_in

    high_end : Member b (vertices p)
    high_end = subst (λ z. Member z (vertices p)) the_ends.1 (mark_out (vertices p) p.pieces m h).high_in

    cut_fit : IsFit (with_cut p a b)
    cut_fit =
        let cl = vertices_closed geo p fit in
        fit_cut p fit a b (cl.proper a low_end) (cl.proper b high_end) (subst (λ z. Lt a z) the_ends.1 (subst (λ z. Lt z m.high) the_ends.0 (mark_out (vertices p) p.pieces m h).next.lt))

    cut_by : Leads (cut_steps p a b) (graph p) (graph (with_cut p a b))
    unfolding cut_steps graph run apply IsAllowed
    cut_by =
        let cl = vertices_closed geo p fit in
        let is : filter (λ n. not (is_at a b n)) (marks (vertices p) p.pieces) ≡ marks (vertices p) (flat_map (cut_piece a b) p.pieces) = cut_marks (vertices p) p.pieces cl a b m (mark_out (vertices p) p.pieces m h) the_ends.0 the_ends.1 in
        let rest : IsPlane (record { points = vertices p; marks = filter (λ n. not (is_at a b n)) (marks (vertices p) p.pieces); pins = p.pins }) =
        plane_part (graph_over (vertices p) p.pieces p.pins) (plane_over (vertices p) p.pieces cl p.pins) (filter (λ n. not (is_at a b n)) (marks (vertices p) p.pieces)) p.pins (IsAscending-filter _ (λ n. not (is_at a b n)) (marks (vertices p) p.pieces) (marks_ascend (vertices p) p.pieces)) (λ n k. (of_filter (λ n. not (is_at a b n)) n (marks (vertices p) p.pieces) k).0) in
        tidied_leads geo p (with_cut p a b) (RemoveEdge a b ∷ []) fit cut_fit (cut_sub p a b low_end high_end)
        (record { there = λ i. record { points = vertices p; marks = is i; pins = p.pins }; sound = (record { allowed = any_in (is_at a b) m (marks (vertices p) p.pieces) h e; plane = rest }, tt) })

  pub cut_leads : (p : Present) → IsFit p → (a b : Point) → list_any (is_at a b) (graph p).marks ≡ true → Leads (cut_steps p a b) (graph p) (graph (with_cut p a b)) × IsFit (with_cut p a b)
  unfolding graph
  cut_leads p fit a b e = let w = any_out (is_at a b) (marks (vertices p) p.pieces) e in (cut_by p fit a b w.0 w.1 w.2, cut_fit p fit a b w.0 w.1 w.2)

  -- ---- a pin inside an edge
  alone : (f : Point → Bool) (r : Point) → f r ≡ true → filter f (r ∷ []) ≡ r ∷ []
  alone f r e = rw e refl

  split_is : (p : Present) → IsFit p → (a b r : Point) → IsProper r → list_any (λ m. is_at a b m && inside r m) (marks (vertices p) p.pieces) ≡ true → pin_steps p r ≡ split_steps a b r
  unfolding pin_steps split_steps graph vertex_steps missing_points
  split_is p fit a b r pr h =
      let vs = vertices p in
      let ks = p.pieces in
      let cl = vertices_closed geo p fit in
      let w = any_out (λ m. is_at a b m && inside r m) (marks vs ks) h in
      let m = w.0 in
      let g = mark_out vs ks m w.1 in
      let c = and_true (is_at a b m) (inside r m) w.2 in
      let d = and_true (same_point m.low a) (same_point m.high b) c.0 in
      let new : Member r vs → ⊥ = λ n. no_vertex_inside vs ks cl m g r n c.1 in
      let one : missing_points (r ∷ []) (vertices p) ≡ r ∷ [] = alone (λ q. not (list_any (same_point q) vs)) r (not_in (list_any (same_point r) vs) (λ e. let x = any_out (same_point r) vs e in new (subst (λ q. Member q vs) (sym (same_out r x.0 x.2)) x.1))) in
      let step : vertex_step_by r (marks vs ks) ≡ SplitEdge a b r =
      ⊎_elim
      (λ s. let n = s.0 in
      let e = one_edge vs ks cl r pr new n m (inner_in vs ks cl r pr new n (mark_out vs ks n s.1) s.2) (inner_in vs ks cl r pr new m g c.1) in
      s.3 ∙ (λ i. SplitEdge ((e.0 ∙ same_out m.low a d.0) i) ((e.1 ∙ same_out m.high b d.1) i) r))
      (λ s. absurd (s.0 m w.1 c.1))
      (step_is r (marks vs ks)) in
      ap (λ rs. vertex_steps rs (graph p) ++ (SetPin r ∷ [])) one ∙ ap (λ s. s ∷ SetPin r ∷ []) step

  inside_free : (p : Present) → IsFit p → (a b r : Point) → list_any (λ m. is_at a b m && inside r m) (marks (vertices p) p.pieces) ≡ true → Member r (vertices p) → ⊥
  inside_free p fit a b r h n =
      let w = any_out (λ m. is_at a b m && inside r m) (marks (vertices p) p.pieces) h in
      no_vertex_inside (vertices p) p.pieces (vertices_closed geo p fit) w.0 (mark_out (vertices p) p.pieces w.0 w.1) r n (and_true (is_at a b w.0) (inside r w.0) w.2).1

  pub split_leads : (p : Present) → IsFit p → (a b r : Point) → IsProper r → list_any (λ m. is_at a b m && inside r m) (graph p).marks ≡ true → Leads (split_steps a b r) (graph p) (graph (with_pin p r))
  unfolding graph
  split_leads p fit a b r pr h = subst (λ ss. Leads ss (graph p) (graph (with_pin p r))) (split_is p fit a b r pr h) (pin_leads geo p fit r pr (λ n. inside_free p fit a b r h (vertex_in p r (pinned n))))

  -- ---- a vertex that only its pin keeps, inside an edge
  module _ (p : Present) (fit : IsFit p) (r : Point) (at_pin : Member r p.pins) (free : Member r (vertices (without_pin p r)) → ⊥) (k : Piece) (here : Member k p.pieces) (o : On k r) where
    other : (x : Point) → (x ≡ r → ⊥) → IsVertex p x → IsVertex (without_pin p r) x
    other x f (begins k h e) = begins k h e
    other x f (finishes k h e) = finishes k h e
    other x f (pinned h) = pinned (in_filter (λ z. not (same_point z r)) x p.pins h (not_in (same_point x r) (λ e. f (same_out x r e))))
    other x f (crossed c) = crossed (crossing_more p (without_pin p r) (λ k h. h) x c)

    one_missing : missing_points (vertices p) (vertices (without_pin p r)) ≡ r ∷ []
    one_missing =
        let s = missing_sum (vertices p) (vertices (without_pin p r)) (vertices_ascend p) (unpin_sub geo p r) in
        let gone : (x : Point) → Member x (missing_points (vertices p) (vertices (without_pin p r))) → Member x (r ∷ []) = λ x m. ⊎_elim (λ e. inl (same_out x r e)) (λ e. absurd (s.apart x m (vertex_in (without_pin p r) x (other x (λ i. clash (same_in x r i) e) (vertex_out p x (s.from_rs x m)))))) (decide (same_point x r)) in
        points_same (missing_points (vertices p) (vertices (without_pin p r))) (r ∷ []) s.parts (tt, tt) gone
        (λ x m. ⊎_elim (λ e. subst (λ z. Member z (missing_points (vertices p) (vertices (without_pin p r)))) (sym e) (⊎_elim (λ n. n) (λ n. absurd (free n)) (s.either r (vertex_in p r (pinned at_pin))))) (λ z. absurd z) m)

    touched : list_any (touches r) (marks (vertices p) p.pieces) ≡ true
    touched =
        let ws = vertices (without_pin p r) in
        let ks = p.pieces in
        let cl = vertices_closed geo (without_pin p r) (fit_unpin geo p r fit) in
        let proper : IsProper r = (vertices_closed geo p fit).proper r (vertex_in p r (pinned at_pin)) in
        let b = around ws ks cl k here r proper free o in
        let i : Inner ws ks r (mark b.low b.high k.curve) = record { is = record { piece = k; here = here; curve = refl; low_in = b.low_in; high_in = b.high_in; next = b.next }; low = b.below; high = b.above; line = o.line } in
        let half = low_half ws ks cl r proper free (mark b.low b.high k.curve) i in
        let is : vertices p ≡ place point_cmp r ws =
        points_same (vertices p) (place point_cmp r ws) (vertices_ascend p) (IsAscending-place point_cmp point_cmp_total r ws (vertices_ascend (without_pin p r)))
        (λ x m. in_place point_cmp point_cmp_total point_cmp_exact x r ws (⊎_elim (λ e. inl (same_out x r e)) (λ e. inr (vertex_in (without_pin p r) x (other x (λ i. clash (same_in x r i) e) (vertex_out p x m)))) (decide (same_point x r))))
        (λ x m. ⊎_elim (λ e. subst (λ z. Member z (vertices p)) (sym e) (vertex_in p r (pinned at_pin))) (λ n. unpin_sub geo p r x n) (of_place point_cmp point_cmp_total point_cmp_exact x r ws m)) in
        ap (λ us. list_any (touches r) (marks us ks)) is ∙ any_in (touches r) (mark b.low r k.curve) (marks (place point_cmp r ws) ks) (mark_in (place point_cmp r ws) ks (mark b.low r k.curve) half) (or_right (same_point b.low r) (same_point r r) (same_itself r))

    merge_is : unpin_steps p r ≡ merge_steps r
    unfolding unpin_steps merge_steps with_tidying graph run apply tidy_steps tidy_step
    merge_is = ap (λ rs. ClearPin r ∷ tidy_steps rs (run (ClearPin r ∷ []) (graph p))) one_missing ∙ ap (λ b. ClearPin r ∷ cond b (MergeEdge r) (RemoveVertex r) ∷ []) touched

    merge_by : Leads (merge_steps r) (graph p) (graph (without_pin p r))
    merge_by = subst (λ ss. Leads ss (graph p) (graph (without_pin p r))) merge_is (unpin_leads geo p fit r at_pin)

  pub merge_leads : (p : Present) → IsFit p → (r : Point) → list_any (same_point r) p.pins ≡ true → list_any (same_point r) (vertices (without_pin p r)) ≡ false → list_any (λ k. on k r) p.pieces ≡ true → Leads (merge_steps r) (graph p) (graph (without_pin p r))
  merge_leads p fit r a f o =
      let w = any_out (same_point r) p.pins a in
      let v = any_out (λ k. on k r) p.pieces o in
      merge_by p fit r (subst (λ z. Member z p.pins) (sym (same_out r w.0 w.2)) w.1) (λ m. any_none (same_point r) r (vertices (without_pin p r)) f m (same_itself r)) v.0 v.1 (on_out v.0 r v.2)
