-- One pin fewer: its steps, and the layer after it.
use Rattle.std.proofs.Common.{◌≡◌, ◌≢◌, true, false, not, List, [], ◌∷◌, refl, sym, ap, ◌∙◌, subst, inl, inr}
use Rattle.std.specs.List.{list_any}
use Rattle.exact_plane.specs.Point.{Point}
use Rattle.exact_plane.specs.PointOrder.{point_cmp}
use Rattle.exact_plane.specs.PointOrderLaws.{point_cmp_total}
use Rattle.plane_graphs.specs.Ascending.{Member}
use Rattle.plane_graphs.specs.Fit.{IsFit}
use Rattle.plane_graphs.specs.Graph.{Graph, graph, graph_over, vertices}
use Rattle.plane_graphs.specs.Line.{IsProper, same_point}
use Rattle.plane_graphs.specs.Piece.{Present}
use Rattle.plane_graphs.specs.Strands.{strand_pieces, strands}
use Rattle.plane_graphs.proofs.Ascending.{ascending_unique}
use Rattle.plane_graphs.proofs.Lists.{IsAscending-filter, any_out, any_none, clash, decide, in_filter, of_filter, not_in, not_out, none_is_empty}
use Rattle.plane_graphs.proofs.Lines.{geometry}
use Rattle.plane_graphs.proofs.Order.{same_in, same_out, same_itself}
use Rattle.plane_graphs.proofs.Strands.{strand_vertices}
use Rattle.plane_graphs.proofs.Vertices.{IsVertex, vertex_in, vertex_out, vertices_ascend, vertices_closed}
use Rattle.plane_graphs.proofs.Vertices.IsVertex.{begins, finishes, pinned, crossed}
use Rattle.edit_steps.specs.Edits.{Unpin, IsAccepted, after, steps}
use Rattle.edit_steps.specs.EditLaws.{IsLoose}
use Rattle.edit_steps.specs.Layer.{Layer, IsAcceptedBy, layer_after}
use Rattle.edit_steps.specs.Steps.{ClearPin as ClearPinAt, apply, run, missing_points, tidy_step, tidy_steps, unpin_steps, with_tidying, without_pin}
use Rattle.edit_steps.proofs.Edits.{fit_unpin, unpin_sub}
use Rattle.edit_steps.proofs.Seen.{loose_is_no_vertex}
use Rattle.slab_laws.specs.declared.names.VertexId.{VertexId}
use Rattle.slab_laws.specs.View.{View, HasVertex, point_in, pinned_in}
use Rattle.arr_notes.specs.Reads.{IsPinSet}
use Rattle.arr_notes.specs.ViewChanges.{with_pin}
use Rattle.arr_notes.proofs.VertexReads.{pin_is_set}
use Rattle.arr_notes.specs.declared.change.Change.TheVariants.{ClearPin}
use Rattle.arr_notes.specs.Curves.{Curves}
use Rattle.arr_notes.specs.MapView.{MapView}
use Rattle.curve_history.specs.Past.{Past, curves_on, SameLayer}
use Rattle.arr_notes.specs.RecordGraph.{drawn_graph}
use Rattle.observer_bus.specs.Rounds.{BusRow}
use Rattle.sound_changes.proofs.ChangesAreSteps.{changes_are_steps}
use Rattle.told_steps.specs.RecordLayers.{IsLayer, layer_of}
use Rattle.told_steps.proofs.Layers.{steps_make_layers}
use Rattle.told_steps.proofs.ToldTogether.{told_runs_lawful}
use Rattle.told_steps.specs.SidedRuns.{IsSidedRun}
use Rattle.told_steps.specs.StrandRuns.{strand_graph}
use Rattle.told_steps.proofs.SidedRuns.{sided_as, sided_then}
use Rattle.told_steps.specs.Tidied.{IsTidied}
use Rattle.told_steps.proofs.Missing.{missing_in, missing_out}
use Rattle.pin_points.proofs.Spotted.{pinned_vertex}

-- ---- which vertices a present loses with a pin: none but its point
module _ (o : Present) (fit : IsFit o) (p : Point) (there : Member p o.pins) where
  abbrev q : Present
  q = without_pin o p

  abbrev vs : List Point
  vs = vertices o

  abbrev ws : List Point
  ws = vertices q

  kept_by : (x : Point) → x ≢ p → IsVertex o x → Member x ws
  kept_by x ne (begins k h e) = vertex_in q x (begins k h e)
  kept_by x ne (finishes k h e) = vertex_in q x (finishes k h e)
  kept_by x ne (pinned h) = vertex_in q x (pinned (in_filter (λ z. not (same_point z p)) x o.pins h (not_in (same_point x p) (λ e. ne (same_out x p e)))))
  kept_by x ne (crossed c) = vertex_in q x (crossed (record { one = c.one; other = c.other; one_here = c.one_here; other_here = c.other_here; apart = c.apart; on_one = c.on_one; on_other = c.on_other; is = c.is }))

  is_vertex : Member p vs
  is_vertex = vertex_in o p (pinned there)

  is_it : (x : Point) → Member x (missing_points vs ws) → x ≡ p
  is_it x m =
      let k = missing_out vs ws x m in
      elim (decide (same_point x p)) [
        | inl e ↦ same_out x p e
        | inr e ↦ absurd (k.1 (kept_by x (λ i. clash (same_in x p i) e) (vertex_out o x k.0)))
      ]

  one_lost : (Member p ws → ⊥) → missing_points vs ws ≡ p ∷ []
  unfolding missing_points
  one_lost none =
      ascending_unique point_cmp point_cmp_total (missing_points vs ws) (p ∷ []) (IsAscending-filter point_cmp (λ y. not (list_any (same_point y) ws)) vs (vertices_ascend o)) (tt, tt)
      (λ x m. inl (is_it x m))
      (λ x m. elim m [ inl e ↦ subst (λ z. Member z (missing_points vs ws)) (sym e) (missing_in vs ws p is_vertex none) | inr n ↦ absurd n ])

  none_lost : Member p ws → missing_points vs ws ≡ []
  none_lost here = none_is_empty (missing_points vs ws) (λ x m. (missing_out vs ws x m).1 (subst (λ z. Member z ws) (sym (is_it x m)) here))

  -- ---- that is told by the graph without the pin, its sides told apart
  abbrev G : Graph
  G = graph_over vs o.pieces q.pins

  abbrev S : Graph
  S = graph_over vs (strand_pieces o.pieces) q.pins

  unpinned : Member p q.pins → ⊥
  unpinned m = clash (same_itself p) (not_out (same_point p p) (of_filter (λ z. not (same_point z p)) p o.pins m).1)

  vertices_proper : (x : Point) → Member x vs → IsProper x
  vertices_proper x m = (vertices_closed geometry o fit).proper x m

  pub goes : IsLoose S p → Member p ws → ⊥
  goes l m = loose_is_no_vertex.go q vs p (fit_unpin geometry o p fit) (vertices_ascend o) vertices_proper (λ x n. unpin_sub geometry o p x n) is_vertex unpinned l m

  stays : (IsLoose S p → ⊥) → Member p ws
  stays n = elim (decide (list_any (same_point p) ws)) [
    | inl e ↦ let y = any_out (same_point p) ws e in subst (λ z. Member z ws) (sym (same_out p y.0 y.2)) y.1
    | inr e ↦ absurd (n (loose_is_no_vertex.stay q vs p (fit_unpin geometry o p fit) (vertices_ascend o) vertices_proper (λ x n. unpin_sub geometry o p x n) is_vertex (λ m. any_none (same_point p) p ws e m (same_itself p))).1)
  ]

  -- the steps: none, or the one that takes the vertex away
  pub loose_steps : IsLoose S p → tidy_steps (missing_points vs ws) G ≡ tidy_step p G ∷ []
  unfolding tidy_steps
  loose_steps l = ap (λ ps. tidy_steps ps G) (one_lost (goes l))

  pub held_steps : (IsLoose S p → ⊥) → tidy_steps (missing_points vs ws) G ≡ []
  unfolding tidy_steps
  held_steps n = ap (λ ps. tidy_steps ps G) (none_lost (stays n))

  pub all_steps : steps (Unpin p) o ≡ ClearPinAt p ∷ tidy_steps (missing_points vs ws) G
  unfolding steps unpin_steps with_tidying run graph apply
  all_steps = refl

cleared_graph : (o : Present) (p : Point) → apply (ClearPinAt p) (graph o) ≡ graph_over (vertices o) o.pieces (without_pin o p).pins
unfolding apply graph
cleared_graph o p = refl

cleared_apart : (o : Present) (p : Point) → apply (ClearPinAt p) (graph (strands o)) ≡ graph_over (vertices o) (strand_pieces o.pieces) (without_pin o p).pins
cleared_apart o p = cleared_graph (strands o) p ∙ ap (λ vs. graph_over vs (strand_pieces o.pieces) (without_pin o p).pins) (strand_vertices o)

module _ (v : MapView) (r : Past) (l : IsLayer v.graph r) (w : VertexId) (has : HasVertex v.graph w) (pin : pinned_in v.graph w ≡ true) where
  abbrev h : Curves
  h = curves_on r

  abbrev o : Layer
  o = layer_of v.graph r

  abbrev p : Point
  p = point_in v.graph w

  was_pinned : list_any (same_point p) o.present.pins ≡ true
  was_pinned = pinned_vertex v.graph h l.sound p w has refl ∙ pin

  there : Member p o.present.pins
  there = let y = any_out (same_point p) o.present.pins was_pinned in subst (λ z. Member z o.present.pins) (sym (same_out p y.0 y.2)) y.1

  accepted : IsAcceptedBy (Unpin p) o
  unfolding IsAccepted
  accepted = was_pinned

  -- ---- without the pin
  abbrev v1 : View
  v1 = with_pin v.graph w false

  set : IsPinSet v.graph v1 w false
  set = pin_is_set v.graph w false

  abbrev rest : Graph
  rest = graph_over (vertices o.present) o.present.pieces (without_pin o.present p).pins

  abbrev rest_apart : Graph
  rest_apart = graph_over (vertices o.present) (strand_pieces o.present.pieces) (without_pin o.present p).pins

  drawn : drawn_graph v1 h ≡ rest
  drawn = (changes_are_steps v.graph h (ClearPin w) l.sound l.curves has).graph ∙ ap (apply (ClearPinAt p)) l.stands ∙ cleared_graph o.present p

  module _ (z : MapView) (is : z.graph ≡ v1) where
    pub clear_has : HasVertex z.graph w
    clear_has = subst (λ y. HasVertex y w) (sym is) (set.has w has)

    pub clear_unpinned : pinned_in z.graph w ≡ false
    clear_unpinned = subst (λ y. pinned_in y w ≡ false) (sym is) (set.pinned has)

    -- ---- and tidied
    module _ (b c : BusRow) (told : IsSidedRun v r b (ClearPinAt p ∷ []) z r c) (x : MapView) (q : Past) (d : BusRow) (t : IsTidied z r c (point_in z.graph w) x q d) where
      abbrev k : Curves
      k = curves_on q

      tidied : IsTidied z r c p x q d
      tidied = subst (λ y. IsTidied z r c y x q d) (ap (λ y. point_in y w) is ∙ set.point w) t

      drawn_now : drawn_graph z.graph h ≡ rest
      drawn_now = ap (λ y. drawn_graph y h) is ∙ drawn

      apart_now : strand_graph z.graph r ≡ rest_apart
      unfolding run
      apart_now = told.strands ∙ ap (apply (ClearPinAt p)) l.strands ∙ cleared_apart o.present p

      tidy_told : IsSidedRun z r c (tidy_steps (missing_points (vertices o.present) (vertices (without_pin o.present p))) rest) x q d
      tidy_told = elim tidied [
        | inl e ↦
            sided_as z r c (tidy_step p (drawn_graph z.graph h) ∷ []) _ x q d e.1
            (ap (λ g. tidy_step p g ∷ []) drawn_now ∙ sym (loose_steps o.present l.lawful.fit p there (subst (λ g. IsLoose g p) apart_now e.0)))
        | inr e ↦ sided_as z r c [] _ x q d e.1 (sym (held_steps o.present l.lawful.fit p there (λ i. e.0 (subst (λ g. IsLoose g p) (sym apart_now) i))))
      ]

      pub unpin_told : IsSidedRun v r b (steps (Unpin p) o.present) x q d
      unpin_told =
          sided_as v r b (ClearPinAt p ∷ tidy_steps (missing_points (vertices o.present) (vertices (without_pin o.present p))) rest) _ x q d
          (sided_then v r b (ClearPinAt p ∷ []) (tidy_steps (missing_points (vertices o.present) (vertices (without_pin o.present p))) rest) z r c told x q d tidy_told) (sym (all_steps o.present l.lawful.fit p there))

      pub unpin_layer : SameLayer r q → IsLayer x.graph q × (layer_of x.graph q ≡ layer_after (Unpin p) o)
      unfolding after
      unpin_layer n = steps_make_layers (Unpin p) v.graph r x.graph q l accepted (told_runs_lawful.steps v h b (steps (Unpin p) o.present) x k d unpin_told.told) unpin_told.strands n.pieces n.names n.next
