-- The edges of a layer by the darts of the records, and the edges of a curve.
use Rattle.std.proofs.Common.{◌≡◌, ℕ, List, map, not, sym, ap, ap₂, ◌∙◌, subst, inl, inr}
use Rattle.std.specs.Prelude.{◌↔◌}
use Rattle.std.specs.List.{Contains, AllByRecursion}
use Rattle.plane_graphs.specs.Ascending.{Member}
use Rattle.plane_graphs.specs.Graph.{Edge, edge_cmp, graph, edges, curves}
use Rattle.plane_graphs.proofs.Ascending.{to_member, from_member}
use Rattle.plane_graphs.proofs.Lists.{decide, in_map, of_map, of_ascending}
use Rattle.plane_graphs.proofs.Meaning.{edge_cmp_total, edge_cmp_exact}
use Rattle.slab_laws.specs.declared.names.DartId.{DartId}
use Rattle.slab_laws.specs.Sound.{edge_in, skeleton_of}
use Rattle.slab_laws.specs.View.{View, HasDart, point_in, source_in, target_in, twin_in}
use Rattle.sound_views.proofs.NamedDarts.{twin_dart, edge_known, row_edge, row_edges}
use Rattle.record_orders.proofs.Sorting.{all_members}
use Rattle.arr_notes.specs.Curves.{Curves, AreCurvesOf, is_forward, IsForward}
use Rattle.sound_views.proofs.DartCurves.{curves_of_darts}
use Rattle.sound_views.proofs.GraphDrawn.{graphs_are_drawn, twins_are_directed}
use Rattle.sound_changes.proofs.StepCases.{has_or_not, some_there}
use Rattle.record_orders.proofs.EdgeEnds.{edge_of_ends, ahead}
use Rattle.curve_history.specs.Past.{Past, curves_on}
use Rattle.told_steps.specs.RecordLayers.{IsLayer, layer_of}
use Rattle.record_orders.specs.Edges.{IsDartAlong}

-- only forward darts have curves
pub forward_by_curve : (v : View) (h : Curves) → AreCurvesOf v h → (k : ℕ) (d : DartId) → Member k (h d) → IsForward v d
forward_by_curve v h a k d m = (
  elim (has_or_not v d) [ inl o ↦ o | inr n ↦ absurd (some_there k (h d) m (a.without_dart d n)) ],
  elim (decide (is_forward v d)) [ inl f ↦ f | inr f ↦ absurd (some_there k (h d) m (a.backward d f)) ],
)

-- ---- edges of the graph that records and history draw
module _ (v : View) (h : Past) (l : IsLayer v h) where
  same_edges : edges (graph (layer_of v h).present) ≡ (skeleton_of v).edges
  same_edges = ap edges (sym l.stands) ∙ ap (λ g. g.edges) (graphs_are_drawn v (curves_on h) l.sound l.curves)

  pub along_drawn : (e : Edge) (d : DartId) → IsDartAlong v e d → Member e (edges (graph (layer_of v h).present))
  along_drawn e d a =
      subst (Member e) (sym same_edges)
      (subst (λ x. Member x (skeleton_of v).edges) a.edge (to_member (skeleton_of v).edges (edge_in v d) (edge_known v d a.forward.0)))

  -- of the dart of an edge and its twin one goes forward
  forward_one : (e : Edge) (d : DartId) → HasDart v d → e ≡ edge_in v d → (d : DartId) × IsDartAlong v e d
  forward_one e d has is =
      elim (decide (is_forward v d)) [
        | inl f ↦ (d, record { forward = (has, f); edge = sym is })
        | inr f ↦ (twin_in v d, record { forward = (l.sound.twinned.has d has, twins_are_directed v l.sound d has ∙ ap not f); edge = ap (λ k. k.edge) (twin_dart v l.sound d has) ∙ sym is })
      ]

  pub drawn_along : (e : Edge) → Member e (edges (graph (layer_of v h).present)) → (d : DartId) × IsDartAlong v e d
  drawn_along e m =
      let k = row_edge v e (of_ascending edge_cmp edge_cmp_total edge_cmp_exact e (row_edges v) (subst (Member e) same_edges m)) in
      forward_one e k.0 k.1 k.2

  pub curves_along : (e : Edge) (d : DartId) → IsDartAlong v e d → curves_on h d ≡ curves (graph (layer_of v h).present) e.low e.high
  curves_along e d a =
      let same : edge_of_ends (point_in v (source_in v d)) (point_in v (target_in v d)) ≡ e = sym (ahead (point_in v (source_in v d)) (point_in v (target_in v d)) a.forward.1) ∙ a.edge in
      sym (curves_of_darts v (curves_on h) d l.sound l.curves a.forward) ∙ ap₂ (λ g x. curves g x.low x.high) l.stands same

  -- ---- the edges of a curve
  pub curved_forward : (k : ℕ) (d : DartId) → Member k (curves_on h d) → IsForward v d
  curved_forward k d m = forward_by_curve v (curves_on h) l.curves k d m

  module _ (k : ℕ) (ds : List DartId) (are : (d : DartId) → Contains ds d ↔ Member k (curves_on h d)) where
    pub all_forward : (es : List DartId) → ((d : DartId) → Member d es → Member d ds) → AllByRecursion (λ d. IsForward v d) es
    all_forward es there = all_members (λ d. IsForward v d) es (λ d m. curved_forward k d ((are d).0 (from_member ds d (there d m))))

    pub curve_edge : (e : Edge) → Member e (map (edge_in v) ds) → Member e (edges (graph (layer_of v h).present)) × Member k (curves (graph (layer_of v h).present) e.low e.high)
    curve_edge e m =
        let d = of_map (edge_in v) e ds m in
        let held_here = (are d.0).0 (from_member ds d.0 d.1) in
        let a : IsDartAlong v e d.0 = record { forward = curved_forward k d.0 held_here; edge = sym d.2 } in
        (along_drawn e d.0 a, subst (Member k) (curves_along e d.0 a) held_here)

    pub edge_curve : (e : Edge) → Member e (edges (graph (layer_of v h).present)) × Member k (curves (graph (layer_of v h).present) e.low e.high) → Member e (map (edge_in v) ds)
    edge_curve e m =
        let d = drawn_along e m.0 in
        let held_here = subst (Member k) (sym (curves_along e d.0 d.1)) m.1 in
        subst (λ x. Member x (map (edge_in v) ds)) d.1.edge (in_map (edge_in v) d.0 ds (to_member ds d.0 ((are d.0).1 held_here)))
