-- A pin inside an edge: what its refusals ask, its steps, and the layer after it.
use Rattle.std.proofs.Common.{◌≡◌, ℕ, Bool, true, false, ◌&&◌, [], ◌∷◌, length, refl, sym, ap, ap₂, ◌∙◌, subst}
use Rattle.std.specs.Prelude.{nat_le}
use Rattle.std.specs.List.{list_any, filter}
use Rattle.exact_plane.specs.Point.{Point}
use Rattle.exact_plane.specs.PointOrderLaws.{and_true}
use Rattle.plane_graphs.specs.Ascending.{Member}
use Rattle.plane_graphs.specs.Graph.{Edge, Graph, Mark, graph, inside, is_at}
use Rattle.plane_graphs.specs.Line.{IsProper, same_point}
use Rattle.plane_graphs.proofs.Lists.{and_in, any_in, any_out, clash}
use Rattle.plane_graphs.proofs.Order.{same_in, same_out}
use Rattle.edit_steps.specs.Edits.{Split, IsAccepted, after, steps}
use Rattle.edit_steps.specs.Layer.{Layer, IsAcceptedBy, layer_after}
use Rattle.edit_steps.specs.Steps.{SetPin, SplitEdge, split_steps}
use Rattle.slab_laws.specs.declared.names.DartId.{DartId}
use Rattle.slab_laws.specs.declared.names.VertexId.{VertexId}
use Rattle.slab_laws.specs.Skeleton.{inside as is_inside_edge}
use Rattle.slab_laws.specs.Sound.{edge_in}
use Rattle.slab_laws.specs.View.{point_in, source_in, target_in}
use Rattle.arr_notes.specs.Curves.{Curves}
use Rattle.arr_notes.specs.MapView.{MapView}
use Rattle.curve_history.specs.Past.{Past, curves_on, SameLayer}
use Rattle.arr_notes.specs.RecordGraph.{drawn_graph}
use Rattle.observer_bus.specs.Rounds.{BusRow}
use Rattle.sound_views.specs.RecordGraphLaws.{IsMarkOf, IsVertexAt}
use Rattle.told_steps.specs.RecordLayers.{IsLayer, layer_of}
use Rattle.told_steps.proofs.Layers.{steps_make_layers}
use Rattle.sound_changes.proofs.StepHolds.{held_mark}
use Rattle.record_orders.specs.Edges.{IsDartAlong, RunsBetween}
use Rattle.record_orders.proofs.EdgeEnds.{ahead, along_runs, edge_of_ends}
use Rattle.told_steps.proofs.Passed.{mark_there}
use Rattle.told_steps.proofs.ToldTogether.{told_runs_lawful}
use Rattle.told_steps.specs.SidedRuns.{IsSidedRun}
use Rattle.told_steps.proofs.SidedRuns.{sided_as}
use Rattle.pin_points.proofs.Pinning.{counted, pinned_on}
use Rattle.pin_points.proofs.Spotted.{mark_inside, inside_edge}
use Rattle.integers.proofs.Tests.{not_true}

module _ (v : MapView) (q : Past) (l : IsLayer v.graph q) (e : Edge) where
  abbrev h : Curves
  h = curves_on q

  abbrev o : Layer
  o = layer_of v.graph q

  abbrev drawn : Graph
  drawn = drawn_graph v.graph h

  -- ---- the edge between the points
  along_mark : (m : Mark) (d : DartId) → IsMarkOf v.graph h m d → is_at e.low e.high m ≡ true → IsDartAlong v.graph e d
  along_mark m d k t =
      let b = and_true (same_point m.low e.low) (same_point m.high e.high) t in
      record {
        forward = k.forward;
        edge = ahead (point_in v.graph (source_in v.graph d)) (point_in v.graph (target_in v.graph d)) k.forward.1 ∙ ap₂ edge_of_ends (k.low ∙ same_out m.low e.low b.0) (k.high ∙ same_out m.high e.high b.1);
      }

  pub no_edge : ((d : DartId) → ¬ IsDartAlong v.graph e d) → list_any (is_at e.low e.high) (graph o.present).marks ≡ false
  no_edge none = subst (λ (g : Graph). list_any (is_at e.low e.high) g.marks ≡ false) l.stands (not_true (list_any (is_at e.low e.high) drawn.marks) (λ t.
      let m = any_out (is_at e.low e.high) drawn.marks t in
      let d = held_mark v.graph l.sound.named h m.0 m.1 in
      none d.0 (along_mark m.0 d.0 d.1 m.2)))

  module _ (d : DartId) (a : IsDartAlong v.graph e d) where
    runs : RunsBetween v.graph e.low e.high d
    runs = along_runs v.graph l.sound e e.low e.high refl d a

    the_mark : (m : Mark) × Member m drawn.marks × IsMarkOf v.graph h m d
    the_mark = mark_there v.graph h l.sound l.curves d a.forward

    at_mark : is_at e.low e.high the_mark.0 ≡ true
    at_mark = let k = the_mark.2 in and_in (same_in the_mark.0.low e.low (sym k.low ∙ runs.starts)) (same_in the_mark.0.high e.high (sym k.high ∙ runs.ends))

    pub is_edge : list_any (is_at e.low e.high) (graph o.present).marks ≡ true
    is_edge = subst (λ (g : Graph). list_any (is_at e.low e.high) g.marks ≡ true) l.stands (any_in (is_at e.low e.high) the_mark.0 drawn.marks the_mark.1 at_mark)

    module _ (r : Point) (proper : IsProper r) where
      abbrev Holds : Graph → Bool
      Holds g = list_any (λ m. is_at e.low e.high m && inside r m) g.marks

      pub is_inside : is_inside_edge (edge_in v.graph d) r ≡ true → Holds (graph o.present) ≡ true
      is_inside i = subst (λ g. Holds g ≡ true) l.stands (any_in (λ m. is_at e.low e.high m && inside r m) the_mark.0 drawn.marks the_mark.1 (and_in at_mark (mark_inside v.graph h l.sound l.curves r proper the_mark.0 d the_mark.2 i)))

      pub not_inside : is_inside_edge (edge_in v.graph d) r ≡ false → Holds (graph o.present) ≡ false
      not_inside f = subst (λ g. Holds g ≡ false) l.stands (not_true (Holds drawn) (λ t.
          let m = any_out (λ m. is_at e.low e.high m && inside r m) drawn.marks t in
          let b = and_true (is_at e.low e.high m.0) (inside r m.0) m.2 in
          let k = held_mark v.graph l.sound.named h m.0 m.1 in
          let same : edge_in v.graph k.0 ≡ edge_in v.graph d = (along_mark m.0 k.0 k.1 b.0).edge ∙ sym a.edge in
          clash (subst (λ z. is_inside_edge z r ≡ true) same (inside_edge v.graph h l.sound l.curves r proper m.0 k.0 k.1 b.1)) f))

      -- ---- its steps
      module _ (i : is_inside_edge (edge_in v.graph d) r ≡ true) where
        accepted : IsAcceptedBy (Split e.low e.high r) o
        unfolding IsAccepted
        accepted = (proper, is_inside i)

        module _ (b : BusRow) (x : MapView) (k : Past) (c : BusRow) (told : IsSidedRun v q b (SplitEdge (point_in v.graph (source_in v.graph d)) (point_in v.graph (target_in v.graph d)) r ∷ []) x k c) (w : VertexId) (at : IsVertexAt x.graph r w) (y : MapView) (t : Past) (f : BusRow) (set : IsSidedRun x k c (SetPin (point_in x.graph w) ∷ []) y t f) where
          pub split_told : IsSidedRun v q b (steps (Split e.low e.high r) o.present) y t f
          unfolding steps split_steps
          split_told =
              pinned_on v q b (SplitEdge e.low e.high r ∷ []) x k c
              (sided_as v q b _ _ x k c told (λ j. SplitEdge (runs.starts j) (runs.ends j) r ∷ [])) r w at y t f set

          pub split_layer : SameLayer q t → IsLayer y.graph t × (layer_of y.graph t ≡ layer_after (Split e.low e.high r) o)
          unfolding after
          split_layer n = steps_make_layers (Split e.low e.high r) v.graph q y.graph t l accepted (told_runs_lawful.steps v h b (steps (Split e.low e.high r) o.present) y (curves_on t) f split_told.told) split_told.strands n.pieces n.names n.next

  -- ---- whether one more pin passes the limit
  pub limit_met : (limit : ℕ) (r : Point) → IsProper r → (b : Bool) → nat_le limit (length (filter (λ u. u.1.pinned) v.graph.vertices)) ≡ b → nat_le limit (length o.present.pins) ≡ b
  limit_met limit r proper b f = ap (nat_le limit) (counted v q l r proper) ∙ f
