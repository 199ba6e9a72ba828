-- One more vertex.
use Rattle.std.proofs.Common.{◌≡◌, List, [], ◌∷◌, Bool, true, false, cond, refl, sym, ap, ap₂, ◌∙◌, subst, inl, inr, ◌⊎◌, ⊎_elim}
use Rattle.std.specs.List.{flat_map}
use Rattle.exact_plane.specs.Point.{Point}
use Rattle.exact_plane.specs.PointOrder.{point_cmp}
use Rattle.exact_plane.specs.PointOrderLaws.{and_true}
use Rattle.plane_graphs.specs.Line.{same_point, IsProper}
use Rattle.plane_graphs.specs.Ascending.{ascending, place, Member}
use Rattle.plane_graphs.specs.Piece.{Piece}
use Rattle.plane_graphs.specs.Graph.{Mark, mark_cmp, graph_over, is_at, marks, inside, collinear}
use Rattle.edit_steps.specs.Steps.{AddVertex, SplitEdge, halves, apply, vertex_step_by}
use Rattle.plane_graphs.proofs.Ascending.{ascending_unique, IsAscending-ascending}
use Rattle.plane_graphs.proofs.Lists.{and_in, clash, of_ascending, in_ascending, of_flat_map, in_flat_map, if_out, if_true, if_false}
use Rattle.plane_graphs.proofs.Inner.{Inner, Kind, one_edge, inner_in, inner_out, low_half, high_half, stays, kind, new_in, vertex_added}
use Rattle.plane_graphs.proofs.Inner.Kind.{lower, upper, old}
use Rattle.plane_graphs.proofs.Order.{Lt, same_out, same_in, mark_cmp_total, mark_cmp_exact}
use Rattle.plane_graphs.proofs.Marks.{IsMark, mark_out, mark_in, marks_ascend}
use Rattle.plane_graphs.proofs.Closed.{IsClosed, mark_line}
use Rattle.integers.proofs.Tests.{not_true}

module _ (vs : List Point) (ks : List Piece) (cl : IsClosed vs ks) (r : Point) (pr : IsProper r) (new : Member r vs → ⊥) (m0 : Mark) (h0 : Inner vs ks r m0) where
  at_edge : (m : Mark) → Inner vs ks r m → is_at m0.low m0.high m ≡ true
  at_edge m h = let e = one_edge vs ks cl r pr new m m0 h h0 in and_in (same_in m.low m0.low e.0) (same_in m.high m0.high e.1)

  inner_at : (m : Mark) → IsMark vs ks m → is_at m0.low m0.high m ≡ true → Inner vs ks r m
  inner_at m h e =
      let f = and_true (same_point m.low m0.low) (same_point m.high m0.high) e in
      let a = same_out m.low m0.low f.0 in
      let b = same_out m.high m0.high f.1 in
      record {
        is = h;
        low = subst (λ p. Lt p r) (sym a) h0.low;
        high = subst (λ p. Lt r p) (sym b) h0.high;
        line = sym (mark_line vs ks cl m h r pr) ∙ ap₂ (λ p q. collinear p q r) a b ∙ mark_line vs ks cl m0 h0.is r pr ∙ h0.line;
      }

  split_there : (x : Mark) → Kind vs ks r x → (IsMark vs ks x → Inner vs ks r x → ⊥) → Member x (flat_map (halves m0.low m0.high r) (marks vs ks))
  split_there x (lower m h e) f = in_flat_map (halves m0.low m0.high r) m x (marks vs ks) (mark_in vs ks m h.is) (if_true (is_at m0.low m0.high m) x _ _ (at_edge m h) (inl e))
  split_there x (upper m h e) f = in_flat_map (halves m0.low m0.high r) m x (marks vs ks) (mark_in vs ks m h.is) (if_true (is_at m0.low m0.high m) x _ _ (at_edge m h) (inr (inl e)))
  split_there x (old h) f = in_flat_map (halves m0.low m0.high r) x x (marks vs ks) (mark_in vs ks x h) (if_false (is_at m0.low m0.high x) x _ _ (not_true (is_at m0.low m0.high x) (λ e. f h (inner_at x h e))) (inl refl))

  split_back : (x : Mark) → Member x (flat_map (halves m0.low m0.high r) (marks vs ks)) → IsMark (place point_cmp r vs) ks x
  split_back x n =
      let a = of_flat_map (halves m0.low m0.high r) x (marks vs ks) n in
      let m = a.0 in
      let h = mark_out vs ks m a.1 in
      ⊎_elim
      (λ w. ⊎_elim (λ e. subst (λ y. IsMark (place point_cmp r vs) ks y) (sym e) (low_half vs ks cl r pr new m (inner_at m h w.0))) (λ w'. ⊎_elim (λ e. subst (λ y. IsMark (place point_cmp r vs) ks y) (sym e) (high_half vs ks cl r pr new m (inner_at m h w.0))) (λ v. absurd v) w') w.1)
      (λ w. ⊎_elim (λ e. subst (λ y. IsMark (place point_cmp r vs) ks y) (sym e) (stays vs ks cl r pr new m h (λ b c d. clash (at_edge m (record { is = h; low = b; high = c; line = d })) w.0))) (λ v. absurd v) w.1)
      (if_out (is_at m0.low m0.high m) x _ _ a.2)

  pub vertex_split : marks (place point_cmp r vs) ks ≡ ascending mark_cmp (flat_map (halves m0.low m0.high r) (marks vs ks))
  vertex_split =
      ascending_unique mark_cmp mark_cmp_total (marks (place point_cmp r vs) ks) (ascending mark_cmp (flat_map (halves m0.low m0.high r) (marks vs ks))) (marks_ascend (place point_cmp r vs) ks) (IsAscending-ascending mark_cmp mark_cmp_total (flat_map (halves m0.low m0.high r) (marks vs ks)))
      (λ x m. let h = mark_out (place point_cmp r vs) ks x m in in_ascending mark_cmp mark_cmp_total mark_cmp_exact x _ (split_there x (kind vs ks cl r pr new x h) (λ g i. not_across x h i)))
      (λ x m. mark_in (place point_cmp r vs) ks x (split_back x (of_ascending mark_cmp mark_cmp_total mark_cmp_exact x _ m)))
    where
      not_across : (x : Mark) → IsMark (place point_cmp r vs) ks x → Inner vs ks r x → ⊥
      not_across x h i = h.next.none r (new_in vs r) i.low i.high (sym ((cl.straight h.piece h.here).span x.low x.high r (cl.proper x.low i.is.low_in) (cl.proper x.high i.is.high_in) pr h.next.lt h.next.at_p.line h.next.at_q.line) ∙ mark_line vs ks cl x i.is r pr ∙ i.line)

-- ---- the step that makes it a vertex
step_by : (r : Point) (m : Mark) (ms : List Mark) (b : Bool) → inside r m ≡ b → (((n : Mark) × Member n ms × (inside r n ≡ true) × (vertex_step_by r ms ≡ SplitEdge n.low n.high r)) ⊎ (((n : Mark) → Member n ms → inside r n ≡ true → ⊥) × (vertex_step_by r ms ≡ AddVertex r))) →
    ((n : Mark) × Member n (m ∷ ms) × (inside r n ≡ true) × (cond b (SplitEdge m.low m.high r) (vertex_step_by r ms) ≡ SplitEdge n.low n.high r)) ⊎ (((n : Mark) → Member n (m ∷ ms) → inside r n ≡ true → ⊥) × (cond b (SplitEdge m.low m.high r) (vertex_step_by r ms) ≡ AddVertex r))
step_by r m ms true e h = inl (m, inl refl, e, refl)
step_by r m ms false e (inl h) = inl (h.0, inr h.1, h.2, h.3)
step_by r m ms false e (inr h) = inr ((λ n k f. ⊎_elim (λ i. clash (ap (inside r) (sym i) ∙ f) e) (λ l. h.0 n l f) k), h.1)

pub step_is : (r : Point) (ms : List Mark) → ((n : Mark) × Member n ms × (inside r n ≡ true) × (vertex_step_by r ms ≡ SplitEdge n.low n.high r)) ⊎ (((n : Mark) → Member n ms → inside r n ≡ true → ⊥) × (vertex_step_by r ms ≡ AddVertex r))
unfolding vertex_step_by
step_is r [] = inr ((λ n m e. m), refl)
step_is r (m ∷ ms) = step_by r m ms (inside r m) refl (step_is r ms)

-- one more vertex: the step gives the graph over the points with r
pub vertex_step : (vs : List Point) (ks : List Piece) (pins : List Point) → IsClosed vs ks → (r : Point) → IsProper r → (Member r vs → ⊥) → apply (vertex_step_by r (marks vs ks)) (graph_over vs ks pins) ≡ graph_over (place point_cmp r vs) ks pins
unfolding apply
vertex_step vs ks pins cl r pr new =
    ⊎_elim
    (λ h. ap (λ s. apply s (graph_over vs ks pins)) h.3 ∙ (λ i. record { points = place point_cmp r vs; marks = sym (vertex_split vs ks cl r pr new h.0 (inner_in vs ks cl r pr new h.0 (mark_out vs ks h.0 h.1) h.2)) i; pins = pins }))
    (λ h. ap (λ s. apply s (graph_over vs ks pins)) h.1 ∙ (λ i. record { points = place point_cmp r vs; marks = sym (vertex_added vs ks cl r pr new (λ m k. h.0 m (mark_in vs ks m k.is) (inner_out vs ks cl r pr new m k))) i; pins = pins }))
    (step_is r (marks vs ks))
