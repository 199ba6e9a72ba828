-- One pin fewer and two edges in one: what its refusals ask, its steps, and the layer after it.
use Rattle.std.proofs.Common.{◌≡◌, ◌≢◌, ℕ, Bool, true, false, cond, not, ◌&&◌, ◌||◌, [], ◌∷◌, refl, sym, ap, ◌∙◌, subst, inr}
use Rattle.std.specs.List.{list_any}
use Rattle.exact_plane.specs.Point.{Point}
use Rattle.exact_plane.specs.PointOrderLaws.{and_true}
use Rattle.plane_graphs.specs.Ascending.{Member}
use Rattle.plane_graphs.specs.Fit.{IsFit}
use Rattle.plane_graphs.specs.Graph.{Graph, Mark, mark, marks, graph, graph_over, vertices}
use Rattle.plane_graphs.specs.Line.{same_point}
use Rattle.plane_graphs.specs.Piece.{Present, on}
use Rattle.plane_graphs.specs.Strands.{strand_piece, strand_pieces, strands}
use Rattle.plane_graphs.proofs.Lists.{and_in, any_in, any_out, clash, in_map, not_in, not_out, or_right}
use Rattle.plane_graphs.proofs.Marks.{mark_out, on_in}
use Rattle.plane_graphs.proofs.Order.{same_itself, same_out}
use Rattle.plane_graphs.proofs.Strands.{of_strands, strand_on, strand_vertices, strands_fit}
use Rattle.edit_steps.specs.Allowed.{IsAllowed, IsPassed}
use Rattle.edit_steps.specs.Edits.{Merge, Unpin, IsAccepted, after, steps}
use Rattle.edit_steps.specs.Layer.{Layer, IsAcceptedBy, layer_after}
use Rattle.edit_steps.specs.Refusals.{is_mergeable}
use Rattle.edit_steps.specs.Steps.{ClearPin, MergeEdge, RemoveVertex, apply, merge_steps, tidy_step, without_pin}
use Rattle.edit_steps.proofs.Laws.{are_sound}
use Rattle.edit_steps.proofs.StrandSteps.{of_strand}
use Rattle.slab_laws.specs.declared.names.VertexId.{VertexId}
use Rattle.slab_laws.specs.View.{HasVertex, point_in, pinned_in}
use Rattle.arr_notes.specs.ViewChanges.{with_pin}
use Rattle.arr_notes.specs.Curves.{Curves}
use Rattle.arr_notes.specs.MapView.{MapView}
use Rattle.curve_history.specs.Past.{Past, curves_on, SameLayer}
use Rattle.arr_notes.specs.RecordGraph.{drawn_graph}
use Rattle.observer_bus.specs.Rounds.{BusRow}
use Rattle.told_steps.specs.RecordLayers.{IsLayer, layer_of}
use Rattle.told_steps.proofs.Layers.{steps_make_layers}
use Rattle.sound_changes.proofs.StepHolds.{point_held, held_point}
use Rattle.told_steps.specs.Tidied.{IsTidied}
use Rattle.told_steps.proofs.ToldTogether.{told_runs_lawful}
use Rattle.told_steps.specs.SidedRuns.{IsSidedRun}
use Rattle.told_steps.specs.StrandRuns.{strand_graph}
use Rattle.told_steps.proofs.SidedRuns.{sided_as}
use Rattle.pin_points.proofs.Pinning.{graph_points}
use Rattle.pin_points.proofs.Spotted.{pinned_vertex}
use Rattle.pin_points.proofs.Unpinning.{all_steps, loose_steps, goes, unpin_told}
use Rattle.integers.proofs.Tests.{not_true}

-- ---- a point that a graph passes straight through, by its marks alone
passed_by : (g k : Graph) → g.marks ≡ k.marks → (p : Point) → IsPassed g p → IsPassed k p
passed_by g k e p s = record {
  low = s.low;
  high = s.high;
  below = s.below;
  above = s.above;
  straight = s.straight;
  curve = s.curve;
  some = subst (Member (mark s.low p s.curve)) e s.some;
  only = λ m h. s.only m (subst (Member m) (sym e) h);
  onwards = λ c h. subst (Member (mark p s.high c)) e (s.onwards c (subst (Member (mark s.low p c)) (sym e) h));
  back = λ c h. subst (Member (mark s.low p c)) e (s.back c (subst (Member (mark p s.high c)) (sym e) h));
}

touches : Point → Mark → Bool
touches p m = same_point m.low p || same_point m.high p

-- the step that takes a vertex away where an edge ends
merges : (g : Graph) (p low : Point) (c : ℕ) → Member (mark low p c) g.marks → tidy_step p g ≡ MergeEdge p
unfolding tidy_step touches
merges g p low c m = ap (λ b. cond b (MergeEdge p) (RemoveVertex p)) (any_in (touches p) (mark low p c) g.marks m (or_right (same_point low p) (same_point p p) (same_itself p)))

without_mark : (o : Present) (p : Point) → list_any (same_point p) o.pins ≡ false → is_mergeable o p ≡ false
without_mark o p e = ap (λ b. b && (not (list_any (same_point p) (vertices (without_pin o p))) && list_any (λ k. on k p) o.pieces)) e

module _ (o : Present) (fit : IsFit o) (p : Point) where
  -- what can be merged is passed, since its steps fit
  accepted_by : is_mergeable o p ≡ true → IsAccepted (Merge p) o
  unfolding IsAccepted
  accepted_by e =
      let a = and_true (list_any (same_point p) o.pins) (not (list_any (same_point p) (vertices (without_pin o p))) && list_any (λ k. on k p) o.pieces) e in
      let b = and_true (not (list_any (same_point p) (vertices (without_pin o p)))) (list_any (λ k. on k p) o.pieces) a.1 in
      (a.0, not_out (list_any (same_point p) (vertices (without_pin o p))) b.0, b.1)

  -- and so where the sides of curves are told apart
  accepted_apart : is_mergeable o p ≡ true → IsAccepted (Merge p) (strands o)
  unfolding IsAccepted
  accepted_apart e =
      let a = accepted_by e in
      let k = any_out (λ k. on k p) o.pieces a.2 in
      (a.0, ap (list_any (same_point p)) (strand_vertices (without_pin o p)) ∙ a.1, any_in (λ k. on k p) (strand_piece k.0) (strand_pieces o.pieces) (in_map strand_piece k.0 o.pieces k.1) (strand_on k.0 p ∙ k.2))

  passed_after : is_mergeable o p ≡ true → IsPassed (graph (strands o)) p
  unfolding steps merge_steps apply IsAllowed
  passed_after e = let k = are_sound (Merge p) (strands o) (strands_fit o fit) (accepted_apart e) in passed_by (apply (ClearPin p) (graph (strands o))) (graph (strands o)) refl p k.1.0.allowed.1

  pub not_mergeable : (IsPassed (graph (strands o)) p → ⊥) → is_mergeable o p ≡ false
  not_mergeable n = not_true (is_mergeable o p) (λ e. n (passed_after e))

  module _ (there : Member p o.pins) (s : IsPassed (graph (strands o)) p) where
    abbrev rest : Graph
    rest = graph_over (vertices o) o.pieces (without_pin o p).pins

    abbrev rest_apart : Graph
    rest_apart = graph_over (vertices o) (strand_pieces o.pieces) (without_pin o p).pins

    still : IsPassed rest_apart p
    unfolding graph
    still = passed_by (graph (strands o)) rest_apart (ap (λ vs. marks vs (strand_pieces o.pieces)) (strand_vertices o)) p s

    alone : list_any (same_point p) (vertices (without_pin o p)) ≡ false
    alone = not_true (list_any (same_point p) (vertices (without_pin o p))) (λ t. let y = any_out (same_point p) (vertices (without_pin o p)) t in goes o fit p there (inr still) (subst (λ z. Member z (vertices (without_pin o p))) (sym (same_out p y.0 y.2)) y.1))

    on_some : list_any (λ k. on k p) o.pieces ≡ true
    on_some =
        let m = mark_out (vertices o) (strand_pieces o.pieces) (mark still.low p still.curve) still.some in
        let k = of_strands m.piece o.pieces m.here in
        any_in (λ k. on k p) k.0 o.pieces k.1 (sym (strand_on k.0 p) ∙ ap (λ z. on z p) (sym k.2) ∙ on_in m.piece p m.next.at_q)

    pub mergeable : is_mergeable o p ≡ true
    mergeable = and_in (any_in (same_point p) p o.pins there (same_itself p)) (and_in (not_in (list_any (same_point p) (vertices (without_pin o p))) (λ t. clash t alone)) on_some)

    -- its steps are those of its pin's going
    pub merge_steps_are : steps (Unpin p) o ≡ steps (Merge p) o
    unfolding steps merge_steps
    merge_steps_are =
        let m = of_strand (vertices o) o.pieces (mark still.low p still.curve) still.some in
        all_steps o fit p there ∙ ap (λ ss. ClearPin p ∷ ss) (loose_steps o fit p there (inr still) ∙ ap (λ x. x ∷ []) (merges rest p still.low m.0.curve m.3))

-- ---- in records
module _ (v : MapView) (r : Past) (l : IsLayer v.graph r) where
  abbrev h : Curves
  h = curves_on r

  abbrev o : Layer
  o = layer_of v.graph r

  points_are : (drawn_graph v.graph h).points ≡ vertices o.present
  points_are = ap (λ (g : Graph). g.points) l.stands ∙ graph_points o.present

  pub no_vertex : (p : Point) → ((w : VertexId) → HasVertex v.graph w → point_in v.graph w ≢ p) → list_any (same_point p) (vertices o.present) ≡ false
  no_vertex p none = not_true (list_any (same_point p) (vertices o.present)) (λ t.
      let y = any_out (same_point p) (vertices o.present) t in
      let w = held_point v.graph l.sound.named h y.0 (subst (Member y.0) (sym points_are) y.1) in
      none w.0 w.1.has (w.1.at ∙ sym (same_out p y.0 y.2)))

  module _ (p : Point) (w : VertexId) (has : HasVertex v.graph w) (at : point_in v.graph w ≡ p) where
    pub is_vertex : list_any (same_point p) (vertices o.present) ≡ true
    is_vertex = any_in (same_point p) p (vertices o.present) (subst (Member p) points_are (subst (λ z. Member z (drawn_graph v.graph h).points) at (point_held v.graph l.sound.named h w has))) (same_itself p)

    pub not_pinned : pinned_in v.graph w ≡ false → is_mergeable o.present p ≡ false
    not_pinned e = without_mark o.present p (pinned_vertex v.graph h l.sound p w has at ∙ e)

    passed_there : IsPassed (graph (strands o.present)) p → IsPassed (strand_graph v.graph r) (point_in v.graph w)
    passed_there s = subst (λ g. IsPassed g (point_in v.graph w)) (sym l.strands) (subst (IsPassed (graph (strands o.present))) (sym at) s)

    pub not_passed : (IsPassed (strand_graph v.graph r) (point_in v.graph w) → ⊥) → is_mergeable o.present p ≡ false
    not_passed n = not_mergeable o.present l.lawful.fit p (λ s. n (passed_there s))

    module _ (pin : pinned_in v.graph w ≡ true) (s : IsPassed (strand_graph v.graph r) (point_in v.graph w)) where
      there : Member p o.present.pins
      there = let y = any_out (same_point p) o.present.pins (pinned_vertex v.graph h l.sound p w has at ∙ pin) in subst (λ z. Member z o.present.pins) (sym (same_out p y.0 y.2)) y.1

      through : IsPassed (graph (strands o.present)) p
      through = subst (IsPassed (graph (strands o.present))) at (subst (λ g. IsPassed g (point_in v.graph w)) l.strands s)

      pub can_merge : is_mergeable o.present p ≡ true
      can_merge = mergeable o.present l.lawful.fit p there through

      accepted : IsAcceptedBy (Merge p) o
      accepted = accepted_by o.present l.lawful.fit p can_merge

      module _ (z : MapView) (is : z.graph ≡ with_pin v.graph w false) (b c : BusRow) (told : IsSidedRun v r b (ClearPin (point_in v.graph w) ∷ []) z r c) (x : MapView) (q : Past) (d : BusRow) (t : IsTidied z r c (point_in z.graph w) x q d) where
        pub merge_told : IsSidedRun v r b (steps (Merge p) o.present) x q d
        merge_told =
            sided_as v r b (steps (Unpin (point_in v.graph w)) o.present) (steps (Merge p) o.present) x q d
            (unpin_told v r l w has pin z is b c told x q d t)
            (ap (λ y. steps (Unpin y) o.present) at ∙ merge_steps_are o.present l.lawful.fit p there through)

        pub merge_layer : SameLayer r q → IsLayer x.graph q × (layer_of x.graph q ≡ layer_after (Merge p) o)
        unfolding after
        merge_layer n = steps_make_layers (Merge p) v.graph r x.graph q l accepted (told_runs_lawful.steps v h b (steps (Merge p) o.present) x (curves_on q) d merge_told.told) merge_told.strands n.pieces n.names n.next
