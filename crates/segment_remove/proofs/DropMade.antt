-- The drop of a curve from records and history: its steps, which are told, and the layer after them.
use Rattle.std.proofs.Common.{◌≡◌, ℕ, not, List, map, refl, sym, ap, ◌∙◌, subst, inl, inr}
use Rattle.std.specs.List.{AllByRecursion, filter}
use Rattle.std.specs.Prelude.{◌↔◌}
use Rattle.exact_plane.specs.Point.{Point}
use Rattle.plane_graphs.specs.Ascending.{Member}
use Rattle.plane_graphs.specs.Graph.{Graph, graph, same_curve, vertices}
use Rattle.plane_graphs.specs.Piece.{Present}
use Rattle.plane_graphs.specs.Strands.{strands}
use Rattle.plane_graphs.proofs.Lists.{in_map, of_map}
use Rattle.edit_steps.specs.Edits.{Drop, IsAccepted, after, steps}
use Rattle.edit_steps.specs.Layer.{IsAcceptedBy, layer_after}
use Rattle.edit_steps.specs.Steps.{Step, less_step, run, without_curve}
use Rattle.slab_laws.specs.declared.names.DartId.{DartId}
use Rattle.slab_laws.specs.declared.names.VertexId.{VertexId}
use Rattle.slab_laws.specs.View.{HasDart, point_in, source_in, target_in}
use Rattle.arr_notes.specs.MapView.{MapView}
use Rattle.curve_history.specs.Past.{Past, curves_on, SameStrands}
use Rattle.curve_history.proofs.Sides.{same_strands_curves}
use Rattle.arr_notes.specs.RecordGraph.{drawn_graph}
use Rattle.sound_views.proofs.GraphHolds.{graphs_hold}
use Rattle.observer_bus.specs.Rounds.{BusRow}
use Rattle.told_steps.specs.RecordLayers.{IsLayer, layer_of}
use Rattle.told_steps.specs.SidedRuns.{IsSidedRun}
use Rattle.told_steps.specs.StrandRuns.{IsStrandRun, strand_graph, strand_steps}
use Rattle.told_steps.proofs.Layers.{steps_make_layers}
use Rattle.told_steps.proofs.StrandRuns.{sides_released}
use Rattle.record_orders.specs.declared.darts.DartKey.{DartKey}
use Rattle.record_orders.proofs.Sorting.{all_members}
use Rattle.told_steps.proofs.LayerEdges.{curved_forward}
use Rattle.segment_remove.specs.CurveLosses.{AreSidesGone, without_sides}
use Rattle.segment_remove.specs.Ends.{AreEnds}
use Rattle.told_steps.specs.Left.{AreLeft, tidying}
use Rattle.told_steps.specs.ToldRuns.{IsToldRun}
use Rattle.told_steps.proofs.ToldTogether.{told_runs_lawful}
use Rattle.segment_remove.proofs.Dropping.{drop_apart, drop_gone, drop_is_tidied, drop_old, drop_run, fit_drop, marks_of, sides_off}
use Rattle.segment_remove.proofs.SameVertices.{point_stays}
use Rattle.segment_remove.proofs.Left.{are_left, tidied_apart, tidied_told}

-- the steps that take a curve from its edges
abbrev releases : ℕ → Graph → List Step
releases c g = map (less_step g) (marks_of c g.marks)

module _ (v : MapView) (r : Past) (l : IsLayer v.graph r) (c : ℕ) where
  abbrev o : Present
  o = (layer_of v.graph r).present

  abbrev new : Present
  new = without_curve o c

  accepted : IsAcceptedBy (Drop c) (layer_of v.graph r)
  unfolding IsAccepted
  accepted = tt

  -- the records w have more room
  module _ (b : BusRow) (w x : MapView) (view : w ≡ v) (r1 r2 : Past) (c1 : SameStrands r1 r2) (e : BusRow) (gone : IsToldRun w (curves_on r) b (releases c (drawn_graph w.graph (curves_on r))) x (curves_on r1) e) (sides : AreSidesGone w.graph r c x.graph r1) where
    released : IsToldRun v (curves_on r) b (releases c (graph o)) x (curves_on r2) e
    released =
        told_runs_lawful.same_curves v (curves_on r) (curves_on r) b _ x (curves_on r1) (curves_on r2) e (λ n. refl) (same_strands_curves r1 r2 c1)
        (told_runs_lawful.same_steps v (curves_on r) b _ (releases c (graph o)) x (curves_on r1) e (ap (releases c) l.stands) (subst (λ z. IsToldRun z (curves_on r) b (releases c (drawn_graph z.graph (curves_on r))) x (curves_on r1) e) view gone))

    released_apart : IsStrandRun v.graph r (sides_off c (graph (strands o))) x.graph r2
    released_apart =
        ap (drawn_graph x.graph) (λ i d. c1 d i) ∙ sides ∙ ap (λ (z : MapView). without_sides c (strand_graph z.graph r)) view
        ∙ sym (sides_released c (strand_graph v.graph r)) ∙ ap (λ g. run (sides_off c g) (strand_graph v.graph r)) l.strands

    module _ (kept : x.graph.vertices ≡ w.graph.vertices) (ks : List DartKey) (all : (d : DartId) → Member d (map (λ k. k.name) ks) ↔ Member c (curves_on r d)) (ws : List VertexId) (ends : AreEnds v.graph ks ws) where
      same : x.graph.vertices ≡ v.graph.vertices
      same = kept ∙ ap (λ (z : MapView). z.graph.vertices) view

      -- the point of an end is among theirs
      among : (p : Point) (w : VertexId) → Member w ws → point_in v.graph w ≡ p → Member p (map (point_in x.graph) ws)
      among p w m at = subst (λ z. Member z (map (point_in x.graph) ws)) (point_stays v.graph x.graph same w ∙ at) (in_map (point_in x.graph) w ws m)

      -- a vertex that goes is one of the ends of the curve's edges
      lost : (p : Point) → Member p (vertices o) → (Member p (vertices new) → ⊥) → Member p (map (point_in x.graph) ws)
      lost p m goes =
          let n = drop_gone o l.lawful.fit c p m goes in
          let d = ((graphs_hold v.graph (curves_on r) l.sound).marks n.0).0 (subst (Member n.0) (sym (ap (λ g. g.marks) l.stands)) n.1) in
          let j = of_map (λ k. k.name) d.0 ks ((all d.0).1 (subst (λ z. Member z (curves_on r d.0)) n.3 d.1.curve)) in
          let both = ends.ends j.0 j.1 in
          elim n.2 [
            | inl i ↦ among p (source_in v.graph j.0.name) both.0 (ap (λ z. point_in v.graph (source_in v.graph z)) (sym j.2) ∙ d.1.low ∙ i)
            | inr i ↦ among p (target_in v.graph j.0.name) both.1 (ap (λ z. point_in v.graph (target_in v.graph z)) (sym j.2) ∙ d.1.high ∙ i)
          ]

      all_left : AreLeft x.graph r2 new (map (point_in x.graph) ws)
      all_left = are_left v r l new (releases c (graph o)) (drop_run o l.lawful.fit c) (sides_off c (graph (strands o))) (drop_apart o l.lawful.fit c) b x r2 e released released_apart (map (point_in x.graph) ws) (fit_drop o l.lawful.fit c) (drop_old o l.lawful.fit c) lost

      module _ (y : MapView) (q : Past) (f : BusRow) (tidied : (p : Present) → AreLeft x.graph r2 p (map (point_in x.graph) ws) → IsSidedRun x r2 e (tidying (drawn_graph x.graph (curves_on r2)) p) y q f) where
        pub drop_told : IsToldRun v (curves_on r) b (steps (Drop c) o) y (curves_on q) f
        drop_told =
            told_runs_lawful.same_steps v (curves_on r) b _ (steps (Drop c) o) y (curves_on q) f (sym (drop_is_tidied o c))
            (tidied_told v r l new (releases c (graph o)) (drop_run o l.lawful.fit c) (sides_off c (graph (strands o))) (drop_apart o l.lawful.fit c) b x r2 e released released_apart y q f (tidied new all_left))

        dropped_apart : IsStrandRun v.graph r (strand_steps (Drop c) o) y.graph q
        dropped_apart = tidied_apart v r l new (releases c (graph o)) (drop_run o l.lawful.fit c) (sides_off c (graph (strands o))) (drop_apart o l.lawful.fit c) b x r2 e released released_apart y q f (tidied new all_left)

        -- the layer after the drop
        pub drop_layer : q.pieces ≡ filter (λ k. not (same_curve k.curve c)) r.pieces → q.names ≡ filter (λ n. not (same_curve n c)) r.names → q.next ≡ r.next → IsLayer y.graph q × (layer_of y.graph q ≡ layer_after (Drop c) (layer_of v.graph r))
        unfolding after
        drop_layer pieces names next = steps_make_layers (Drop c) v.graph r y.graph q l accepted (told_runs_lawful.steps v (curves_on r) b (steps (Drop c) o) y (curves_on q) f drop_told) dropped_apart pieces names next

  -- the curve's edges are told by darts
  pub keys_have : (ks : List DartKey) → ((d : DartId) → Member d (map (λ k. k.name) ks) ↔ Member c (curves_on r d)) → AllByRecursion (λ k. HasDart v.graph k.name) ks
  keys_have ks all = all_members (λ k. HasDart v.graph k.name) ks (λ k m. (curved_forward v.graph r l c k.name ((all k.name).0 (in_map (λ k. k.name) k ks m))).0)
