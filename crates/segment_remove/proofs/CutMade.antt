-- The cut of an edge from records and history: its steps, which are told, and the layer after them.
use Rattle.std.proofs.Common.{◌≡◌, ℕ, true, List, [], ◌∷◌, length, map, refl, sym, ap, ap₂, ◌∙◌, subst, inl, inr, Less}
use Rattle.std.specs.List.{AllByRecursion, flat_map, list_any}
use Rattle.exact_plane.specs.Point.{Point}
use Rattle.exact_plane.specs.PointOrder.{point_cmp}
use Rattle.plane_graphs.specs.Ascending.{IsAscending}
use Rattle.plane_graphs.specs.Graph.{Edge, graph, graph_over, is_at, vertices}
use Rattle.plane_graphs.specs.Piece.{Present}
use Rattle.plane_graphs.specs.Strands.{strand_pieces, strands}
use Rattle.plane_graphs.proofs.Order.{lt_out}
use Rattle.edit_steps.specs.Edits.{Cut, IsAccepted, after, steps}
use Rattle.edit_steps.specs.Layer.{IsAcceptedBy, layer_after}
use Rattle.edit_steps.specs.Steps.{RemoveEdge, Step, cut_piece, run, with_cut}
use Rattle.slab_laws.specs.declared.names.DartId.{DartId}
use Rattle.slab_laws.specs.declared.names.VertexId.{VertexId}
use Rattle.slab_laws.specs.View.{View, HasVertex, point_in, source_in, target_in, twin_in}
use Rattle.arr_notes.specs.MapView.{MapView}
use Rattle.arr_notes.specs.Step.{remove_edge}
use Rattle.curve_history.specs.Past.{Past, curves_on, SameStrands}
use Rattle.curve_history.proofs.Sides.{same_strands_curves}
use Rattle.arr_notes.specs.RecordGraph.{drawn_graph}
use Rattle.observer_bus.specs.Rounds.{BusRow}
use Rattle.told_steps.specs.RecordLayers.{IsLayer, layer_of}
use Rattle.told_steps.specs.SidedRuns.{IsSidedRun}
use Rattle.told_steps.specs.StrandRuns.{IsStrandRun, strand_graph, strand_steps}
use Rattle.told_steps.proofs.Layers.{steps_make_layers}
use Rattle.record_orders.specs.Edges.{IsDartAlong, RunsBetween}
use Rattle.record_orders.proofs.EdgeEnds.{along_runs}
use Rattle.told_steps.specs.Left.{AreLeft, tidying}
use Rattle.told_steps.specs.ToldRuns.{IsToldRun}
use Rattle.told_steps.proofs.ToldTogether.{told_runs_lawful}
use Rattle.segment_remove.proofs.Cutting.{cut_apart, cut_gone, cut_is_tidied, cut_old, cut_run, fit_cut}
use Rattle.segment_remove.proofs.Joined.{joined, joined_apart}
use Rattle.segment_remove.proofs.SameVertices.{point_stays, still_ascend, still_have}
use Rattle.segment_remove.proofs.Left.{are_left, tidied_apart, tidied_told, whole}

module _ (v : MapView) (r : Past) (l : IsLayer v.graph r) (e : Edge) (d : DartId) (a : IsDartAlong v.graph e d) (s t : VertexId) (is_s : s ≡ source_in v.graph d) (is_t : t ≡ target_in v.graph d) where
  abbrev o : Present
  o = (layer_of v.graph r).present

  abbrev new : Present
  new = with_cut o e.low e.high

  runs : RunsBetween v.graph e.low e.high d
  runs = along_runs v.graph l.sound e e.low e.high refl d a

  there : list_any (is_at e.low e.high) (graph o).marks ≡ true
  there = joined v.graph r l e d a

  accepted : IsAcceptedBy (Cut e.low e.high) (layer_of v.graph r)
  unfolding IsAccepted
  accepted = there

  there_apart : run (RemoveEdge e.low e.high ∷ []) (graph (strands o)) ≡ graph_over (vertices o) (strand_pieces new.pieces) new.pins
  there_apart = cut_apart o e.low e.high l.lawful.fit (joined_apart v.graph r l e d a)

  pub has_s : HasVertex v.graph s
  has_s = subst (HasVertex v.graph) (sym is_s) (l.sound.linked.source d a.forward.0)

  pub has_t : HasVertex v.graph t
  has_t = subst (HasVertex v.graph) (sym is_t) (l.sound.linked.source _ (l.sound.twinned.has d a.forward.0))

  pub at_s : point_in v.graph s ≡ e.low
  at_s = ap (point_in v.graph) is_s ∙ runs.starts

  pub at_t : point_in v.graph t ≡ e.high
  at_t = ap (point_in v.graph) is_t ∙ runs.ends

  before : point_cmp (point_in v.graph s) (point_in v.graph t) ≡ Less
  before = subst (λ z. point_cmp (point_in v.graph z) (point_in v.graph t) ≡ Less) (sym is_s) (subst (λ z. point_cmp (point_in v.graph (source_in v.graph d)) (point_in v.graph z) ≡ Less) (sym is_t) (lt_out (point_in v.graph (source_in v.graph d)) (point_in v.graph (target_in v.graph d)) a.forward.1).is)

  -- how many pieces there are after the cut
  pub counted : (low high : Point) → low ≡ point_in v.graph s → high ≡ point_in v.graph t → (n : ℕ) → n ≡ length (flat_map (cut_piece low high) r.pieces) → n ≡ length new.pieces
  counted low high at_low at_high n is = is ∙ ap₂ (λ p q. length (flat_map (cut_piece p q) r.pieces)) (at_low ∙ at_s) (at_high ∙ at_t)

  -- ---- the edge is released, where room was made before
  module _ (w : MapView) (view : w ≡ v) (x : MapView) (gives : x.graph ≡ remove_edge w.graph d (twin_in w.graph d)) where
    same : x.graph.vertices ≡ v.graph.vertices
    same = ap (λ (z : View). z.vertices) gives ∙ ap (λ (z : MapView). z.graph.vertices) view

    pub both_have : AllByRecursion (λ w. HasVertex x.graph w) (s ∷ t ∷ [])
    both_have = still_have v.graph x.graph same (s ∷ t ∷ []) (has_s, (has_t, tt))

    pub both_ascend : IsAscending point_cmp (map (point_in x.graph) (s ∷ t ∷ []))
    both_ascend = still_ascend v.graph x.graph same (s ∷ t ∷ []) ((before, tt), (tt, tt))

    abbrev step_there : MapView → List Step
    step_there z = RemoveEdge (point_in z.graph (source_in z.graph d)) (point_in z.graph (target_in z.graph d)) ∷ []

    abbrev firsts : List Step
    firsts = RemoveEdge e.low e.high ∷ []

    at_ends : step_there v ≡ firsts
    at_ends = ap₂ (λ p q. RemoveEdge p q ∷ []) runs.starts runs.ends

    -- the history r1 has other pieces and more room
    module _ (r1 : Past) (c1 : SameStrands r r1) (b : BusRow) (k : Past) (c : BusRow) (gone : IsToldRun w (curves_on r1) b (step_there w) x (curves_on k) c) (sides : IsStrandRun w.graph r1 (step_there w) x.graph k) where
      released : IsToldRun v (curves_on r) b firsts x (curves_on k) c
      released =
          told_runs_lawful.same_steps v (curves_on r) b (step_there w) firsts x (curves_on k) c (ap step_there view ∙ at_ends)
          (subst (λ z. IsToldRun z (curves_on r) b (step_there w) x (curves_on k) c) view (told_runs_lawful.same_curves w (curves_on r1) (curves_on r) b (step_there w) x (curves_on k) (curves_on k) c (λ n. sym (same_strands_curves r r1 c1 n)) (λ n. refl) gone))

      released_apart : IsStrandRun v.graph r firsts x.graph k
      released_apart = sides ∙ (λ i. run (step_there (view i)) (drawn_graph (view i).graph (λ n. c1 n i))) ∙ ap (λ ss. run ss (strand_graph v.graph r)) at_ends

      -- only these two may be tidied
      both_left : AreLeft x.graph k new (map (point_in x.graph) (s ∷ t ∷ []))
      both_left =
          are_left v r l new firsts (cut_run o l.lawful.fit e.low e.high there) firsts there_apart b x k c released released_apart (map (point_in x.graph) (s ∷ t ∷ [])) (fit_cut o l.lawful.fit e.low e.high there) (cut_old o l.lawful.fit e.low e.high there)
          (λ p m goes. elim (cut_gone o l.lawful.fit e.low e.high there p m goes) [ inl i ↦ inl (i ∙ sym at_s ∙ sym (point_stays v.graph x.graph same s)) | inr i ↦ inr (inl (i ∙ sym at_t ∙ sym (point_stays v.graph x.graph same t))) ])

      module _ (y : MapView) (q : Past) (f : BusRow) (tidied : (p : Present) → AreLeft x.graph k p (map (point_in x.graph) (s ∷ t ∷ [])) → IsSidedRun x k c (tidying (drawn_graph x.graph (curves_on k)) p) y q f) where
        pub cut_told : IsToldRun v (curves_on r) b (steps (Cut e.low e.high) o) y (curves_on q) f
        cut_told =
            told_runs_lawful.same_steps v (curves_on r) b _ (steps (Cut e.low e.high) o) y (curves_on q) f (sym (cut_is_tidied o e.low e.high))
            (tidied_told v r l new firsts (cut_run o l.lawful.fit e.low e.high there) firsts there_apart b x k c released released_apart y q f (tidied new both_left))

        made_apart : IsStrandRun v.graph r (strand_steps (Cut e.low e.high) o) y.graph q
        made_apart =
            tidied_apart v r l new firsts (cut_run o l.lawful.fit e.low e.high there) firsts there_apart b x k c released released_apart y q f (tidied new both_left)
            ∙ ap (λ ss. run ss (strand_graph v.graph r)) (whole v r l new firsts (cut_run o l.lawful.fit e.low e.high there) firsts there_apart b x k c released released_apart ∙ sym (cut_is_tidied o e.low e.high))

        -- the layer after the cut
        pub cut_layer : q.pieces ≡ flat_map (cut_piece e.low e.high) r.pieces → q.names ≡ r.names → q.next ≡ r.next → IsLayer y.graph q × (layer_of y.graph q ≡ layer_after (Cut e.low e.high) (layer_of v.graph r))
        unfolding after
        cut_layer pieces names next = steps_make_layers (Cut e.low e.high) v.graph r y.graph q l accepted (told_runs_lawful.steps v (curves_on r) b (steps (Cut e.low e.high) o) y (curves_on q) f cut_told) made_apart pieces names next
