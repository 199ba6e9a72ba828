-- Whether an edge joins two points, by the records' darts and by the present's marks.
use Rattle.std.proofs.Common.{◌≡◌, true, false, refl, sym, ap, ap₂, ◌∙◌, subst}
use Rattle.std.specs.List.{list_any}
use Rattle.plane_graphs.specs.Ascending.{Member}
use Rattle.plane_graphs.specs.Graph.{Edge, Graph, Mark, graph, is_at, mark}
use Rattle.plane_graphs.specs.Line.{same_point}
use Rattle.plane_graphs.specs.Piece.{Present}
use Rattle.plane_graphs.specs.Strands.{strands}
use Rattle.plane_graphs.proofs.Lists.{and_in, any_in, any_out, some_of}
use Rattle.plane_graphs.proofs.Order.{same_in, same_out}
use Rattle.slab_laws.specs.declared.names.DartId.{DartId}
use Rattle.slab_laws.specs.View.{View, point_in, source_in, target_in}
use Rattle.arr_notes.specs.Curves.{Curves, AreCurvesOf}
use Rattle.curve_history.specs.Past.{Past, curves_on, strands_on}
use Rattle.curve_history.proofs.Sides.{strands_of_edges}
use Rattle.arr_notes.specs.RecordGraph.{drawn_graph}
use Rattle.sound_views.proofs.GraphHolds.{graphs_hold}
use Rattle.told_steps.specs.RecordLayers.{IsLayer, layer_of}
use Rattle.record_orders.specs.Edges.{IsDartAlong}
use Rattle.record_orders.proofs.EdgeEnds.{ahead, along_runs, edge_of_ends}
use Rattle.integers.proofs.Tests.{not_true}
use Rattle.exact_plane.specs.PointOrderLaws.{and_true}

module _ (v : View) (r : Past) (l : IsLayer v r) (e : Edge) where
  abbrev o : Present
  o = (layer_of v r).present

  same_marks : (drawn_graph v (curves_on r)).marks ≡ (graph o).marks
  same_marks = ap (λ g. g.marks) l.stands

  joined_in : (h : Curves) (g : Graph) → AreCurvesOf v h → drawn_graph v h ≡ g → (d : DartId) → IsDartAlong v e d → list_any (is_at e.low e.high) g.marks ≡ true
  joined_in h g are draws d a =
      let c = some_of (h d) (are.some d a.forward) in
      let runs = along_runs v l.sound e e.low e.high refl d a in
      let m : Mark = mark e.low e.high c.0 in
      let there = ((graphs_hold v h l.sound).marks m).1 (d, record { forward = a.forward; low = runs.starts; high = runs.ends; curve = c.1 }) in
      any_in (is_at e.low e.high) m g.marks (subst (λ z. Member m z.marks) draws there) (and_in (same_in e.low e.low refl) (same_in e.high e.high refl))

  pub joined : (d : DartId) → IsDartAlong v e d → list_any (is_at e.low e.high) (graph o).marks ≡ true
  joined d a = joined_in (curves_on r) (graph o) l.curves l.stands d a

  -- also where sides are told apart
  pub joined_apart : (d : DartId) → IsDartAlong v e d → list_any (is_at e.low e.high) (graph (strands o)).marks ≡ true
  joined_apart d a = joined_in (strands_on r) (graph (strands o)) (strands_of_edges v r l.curves) l.strands d a

  pub not_joined : ((d : DartId) → ¬ IsDartAlong v e d) → list_any (is_at e.low e.high) (graph o).marks ≡ false
  not_joined none = not_true (list_any (is_at e.low e.high) (graph o).marks) (λ t.
      let m = any_out (is_at e.low e.high) (graph o).marks t in
      let at = and_true (same_point m.0.low e.low) (same_point m.0.high e.high) m.2 in
      let d = ((graphs_hold v (curves_on r) l.sound).marks m.0).0 (subst (Member m.0) (sym same_marks) m.1) in
      let ends = ap₂ edge_of_ends (d.1.low ∙ same_out m.0.low e.low at.0) (d.1.high ∙ same_out m.0.high e.high at.1) in
      none d.0 (record { forward = d.1.forward; edge = ahead (point_in v (source_in v d.0)) (point_in v (target_in v d.0)) d.1.forward.1 ∙ ends }))
