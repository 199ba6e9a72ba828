-- One vertex fewer.
use Rattle.std.proofs.Common.{◌≡◌, List, Bool, true, false, cond, not, ◌&&◌, ◌||◌, refl, sym, ap, ◌∙◌, subst, inl, inr, ◌⊎◌, ⊎_elim}
use Rattle.std.specs.List.{list_any, flat_map}
use Rattle.integers.proofs.Decisions.{or_out}
use Rattle.exact_plane.specs.Point.{Point}
use Rattle.exact_plane.specs.PointOrder.{point_cmp}
use Rattle.exact_plane.specs.PointOrderLaws.{point_cmp_total, and_true}
use Rattle.plane_graphs.specs.Line.{same_point, IsProper}
use Rattle.plane_graphs.specs.Ascending.{ascending, place, Member, IsAscending}
use Rattle.plane_graphs.specs.Piece.{Piece}
use Rattle.plane_graphs.specs.Graph.{Mark, mark_cmp, graph_over, marks, inside, mark, same_curve}
use Rattle.edit_steps.specs.Steps.{MergeEdge, RemoveVertex, marks_across, merged_marks, points_without, apply, tidy_step}
use Rattle.plane_graphs.proofs.Ascending.{ascending_unique, IsAscending-ascending, IsAscending-place}
use Rattle.plane_graphs.proofs.Lists.{and_in, not_out, not_in, clash, decide, of_ascending, in_ascending, of_flat_map, in_flat_map, if_out, if_true, if_false, one_if, if_one, or_right, any_out, any_none, in_filter, of_filter, IsAscending-filter}
use Rattle.plane_graphs.proofs.Order.{Lt, lt_never, same_out, same_in, curve_in, curve_out, mark_cmp_total, mark_cmp_exact}
use Rattle.plane_graphs.proofs.Marks.{IsMark, mark_path, mark_out, mark_in, marks_ascend}
use Rattle.plane_graphs.proofs.Closed.{IsClosed}
use Rattle.plane_graphs.proofs.Inner.{Inner, Kind, kind, one_edge, low_half, high_half, stays, inner_in, inner_out, old_or, old_in, vertex_added}
use Rattle.plane_graphs.proofs.Inner.Kind.{lower, upper, old}
use Rattle.integers.proofs.Tests.{not_true}

abbrev pub touches : Point → Mark → Bool
touches r m = same_point m.low r || same_point m.high r

without_place : (vs : List Point) (r : Point) → IsAscending point_cmp vs → (Member r vs → ⊥) → points_without r (place point_cmp r vs) ≡ vs
without_place vs r asc new =
    ascending_unique point_cmp point_cmp_total (points_without r (place point_cmp r vs)) vs (IsAscending-filter point_cmp _ _ (IsAscending-place point_cmp point_cmp_total r vs asc)) asc
    (λ x m. let k = of_filter (λ q. not (same_point q r)) x (place point_cmp r vs) m in ⊎_elim (λ e. clash (same_in x r e) (not_out (same_point x r) k.1)) (λ n. n) (old_or vs r x k.0))
    (λ x m. in_filter (λ q. not (same_point q r)) x (place point_cmp r vs) (old_in vs r x m) (not_in (same_point x r) (λ e. new (subst (λ y. Member y vs) (same_out x r e) m))))

module _ (vs : List Point) (ks : List Piece) (cl : IsClosed vs ks) (r : Point) (pr : IsProper r) (new : Member r vs → ⊥) where
  abbrev more : List Mark
  more = marks (place point_cmp r vs) ks

  not_r : (p : Point) → Member p vs → same_point p r ≡ false
  not_r p m = not_true (same_point p r) (λ e. new (subst (λ y. Member y vs) (same_out p r e) m))

  -- a half that ends at r, or begins there
  pub ends_there : (n : Mark) → Kind vs ks r n → n.high ≡ r → (a : Mark) × Inner vs ks r a × (n ≡ mark a.low r a.curve)
  ends_there n (lower a h e) k = (a, h, e)
  ends_there n (upper a h e) k = absurd (lt_never (subst (λ p. Lt r p) (sym (ap (λ m. m.high) e) ∙ k) h.high))
  ends_there n (old h) k = absurd (new (subst (λ p. Member p vs) k h.high_in))

  pub starts_there : (n : Mark) → Kind vs ks r n → n.low ≡ r → (a : Mark) × Inner vs ks r a × (n ≡ mark r a.high a.curve)
  starts_there n (upper a h e) k = (a, h, e)
  starts_there n (lower a h e) k = absurd (lt_never (subst (λ p. Lt p r) (sym (ap (λ m. m.low) e) ∙ k) h.low))
  starts_there n (old h) k = absurd (new (subst (λ p. Member p vs) k h.low_in))

  elsewhere : (n : Mark) → Kind vs ks r n → same_point n.low r ≡ false → same_point n.high r ≡ false → IsMark vs ks n
  elsewhere n (lower a h e) b c = clash (same_in n.high r (ap (λ m. m.high) e)) c
  elsewhere n (upper a h e) b c = clash (same_in n.low r (ap (λ m. m.low) e)) b
  elsewhere n (old h) b c = h

  -- the two halves of a mark across r make a mark
  joined : (x n m : Mark) → Member n more → Member m more → n.high ≡ r → m.low ≡ r → m.curve ≡ n.curve → x ≡ mark n.low m.high n.curve → IsMark vs ks x
  joined x n m hn hm en em ec ex =
      let a = ends_there n (kind vs ks cl r pr new n (mark_out (place point_cmp r vs) ks n hn)) en in
      let b = starts_there m (kind vs ks cl r pr new m (mark_out (place point_cmp r vs) ks m hm)) em in
      let e = one_edge vs ks cl r pr new a.0 b.0 a.1 b.1 in
      let is : x ≡ a.0 = ex ∙ sym (mark_path a.0 n.low m.high n.curve (sym (ap (λ z. z.low) a.2)) (e.1 ∙ sym (ap (λ z. z.high) b.2)) (sym (ap (λ z. z.curve) a.2))) in
      subst (λ y. IsMark vs ks y) (sym is) a.1.is

  merge_there : (x : Mark) → Member x (flat_map (merged_marks r more) more) → IsMark vs ks x
  merge_there x h =
      let a = of_flat_map (merged_marks r more) x more h in
      let n = a.0 in
      ⊎_elim
      (λ w. absurd w.1)
      (λ w. ⊎_elim
      (λ v. let b = of_flat_map (marks_across r n) x more v.1 in
      let m = b.0 in
      let c = one_if (same_point m.low r && same_curve m.curve n.curve) x (mark n.low m.high n.curve) b.2 in
      let d = and_true (same_point m.low r) (same_curve m.curve n.curve) c.0 in
      joined x n m a.1 b.1 (same_out n.high r v.0) (same_out m.low r d.0) (curve_out m.curve n.curve d.1) c.1)
      (λ v. ⊎_elim (λ e. subst (λ y. IsMark vs ks y) (sym e) (elsewhere n (kind vs ks cl r pr new n (mark_out (place point_cmp r vs) ks n a.1)) w.0 v.0)) (λ z. absurd z) v.1)
      (if_out (same_point n.high r) x _ _ w.1))
      (if_out (same_point n.low r) x _ _ a.2)

  -- it is one of what merging gives
  unmoved : (x : Mark) → IsMark vs ks x → (Inner vs ks r x → ⊥) → Member x (flat_map (merged_marks r more) more)
  unmoved x h f =
      in_flat_map (merged_marks r more) x x more (mark_in (place point_cmp r vs) ks x (stays vs ks cl r pr new x h (λ a b e. f (record { is = h; low = a; high = b; line = e }))))
      (if_false (same_point x.low r) x _ _ (not_r x.low h.low_in) (if_false (same_point x.high r) x _ _ (not_r x.high h.high_in) (inl refl)))

  rejoined : (x : Mark) → Inner vs ks r x → Member x (flat_map (merged_marks r more) more)
  rejoined x h =
      let n : Mark = mark x.low r x.curve in
      let m : Mark = mark r x.high x.curve in
      in_flat_map (merged_marks r more) n x more (mark_in (place point_cmp r vs) ks n (low_half vs ks cl r pr new x h))
      (if_false (same_point x.low r) x _ _ (not_r x.low h.is.low_in)
      (if_true (same_point r r) x _ _ (same_in r r refl)
      (in_flat_map (marks_across r n) m x more (mark_in (place point_cmp r vs) ks m (high_half vs ks cl r pr new x h))
      (if_one (same_point r r && same_curve x.curve x.curve) x (mark x.low x.high x.curve) (and_in (same_in r r refl) (curve_in x.curve x.curve refl)) refl))))

  pub vertex_merged : ascending mark_cmp (flat_map (merged_marks r more) more) ≡ marks vs ks
  vertex_merged =
      ascending_unique mark_cmp mark_cmp_total (ascending mark_cmp (flat_map (merged_marks r more) more)) (marks vs ks) (IsAscending-ascending mark_cmp mark_cmp_total (flat_map (merged_marks r more) more)) (marks_ascend vs ks)
      (λ x m. mark_in vs ks x (merge_there x (of_ascending mark_cmp mark_cmp_total mark_cmp_exact x _ m)))
      (λ x m. let h = mark_out vs ks x m in in_ascending mark_cmp mark_cmp_total mark_cmp_exact x _ (⊎_elim (λ e. rejoined x (inner_in vs ks cl r pr new x h e)) (λ e. unmoved x h (λ i. clash (inner_out vs ks cl r pr new x i) e)) (decide (inside r x))))

  untouched : list_any (touches r) more ≡ false → (m : Mark) → Inner vs ks r m → ⊥
  untouched f m h = any_none (touches r) (mark m.low r m.curve) more f (mark_in (place point_cmp r vs) ks _ (low_half vs ks cl r pr new m h)) (or_right (same_point m.low r) (same_point r r) (same_in r r refl))

  -- a vertex that is not needed has no dart out, or it stands inside one edge of the rest, whose two halves are all its edges
  pub record IsPassed : Type 0 where
    pub edge : Mark
    pub inner : Inner vs ks r edge
    pub all : (n : Mark) → Member n more → touches r n ≡ true → ((n.low ≡ edge.low) × (n.high ≡ r)) ⊎ ((n.low ≡ r) × (n.high ≡ edge.high))

  pub passed : list_any (touches r) more ≡ true → IsPassed
  passed h =
      let a = any_out (touches r) more h in
      let k = kind vs ks cl r pr new a.0 (mark_out (place point_cmp r vs) ks a.0 a.1) in
      ⊎_elim (λ e. by_edge (starts_there a.0 k (same_out a.0.low r e)).0 (starts_there a.0 k (same_out a.0.low r e)).1) (λ e. by_edge (ends_there a.0 k (same_out a.0.high r e)).0 (ends_there a.0 k (same_out a.0.high r e)).1) (or_out (same_point a.0.low r) (same_point a.0.high r) a.2)
    where
      by_edge : (m : Mark) → Inner vs ks r m → IsPassed
      by_edge m i = record {
        edge = m;
        inner = i;
        all = λ n here t.
            let k = kind vs ks cl r pr new n (mark_out (place point_cmp r vs) ks n here) in
            ⊎_elim
            (λ e. let s = starts_there n k (same_out n.low r e) in inr (same_out n.low r e, ap (λ z. z.high) s.2 ∙ (one_edge vs ks cl r pr new s.0 m s.1 i).1))
            (λ e. let s = ends_there n k (same_out n.high r e) in inl (ap (λ z. z.low) s.2 ∙ (one_edge vs ks cl r pr new s.0 m s.1 i).0, same_out n.high r e))
            (or_out (same_point n.low r) (same_point n.high r) t);
      }

-- the step gives the graph over the other points
pub vertex_less : (vs : List Point) (ks : List Piece) (pins : List Point) → IsClosed vs ks → (r : Point) → IsProper r → (Member r vs → ⊥) → apply (tidy_step r (graph_over (place point_cmp r vs) ks pins)) (graph_over (place point_cmp r vs) ks pins) ≡ graph_over vs ks pins
unfolding apply tidy_step
vertex_less vs ks pins cl r pr new = by (list_any (touches r) (marks (place point_cmp r vs) ks)) refl
  where
    by : (b : Bool) → list_any (touches r) (marks (place point_cmp r vs) ks) ≡ b → apply (cond b (MergeEdge r) (RemoveVertex r)) (graph_over (place point_cmp r vs) ks pins) ≡ graph_over vs ks pins
    by true e = λ i. record { points = without_place vs r cl.ascend new i; marks = vertex_merged vs ks cl r pr new i; pins = pins }
    by false e = λ i. record { points = without_place vs r cl.ascend new i; marks = vertex_added vs ks cl r pr new (untouched vs ks cl r pr new e) i; pins = pins }
