-- Records that stand for a layer name the vertices, edges and pins of its present.
use Rattle.std.proofs.Common.{◌≡◌, map, refl, sym, ap, ◌∙◌, subst}
use Rattle.plane_graphs.specs.Ascending.{Member}
use Rattle.plane_graphs.specs.Graph.{Graph, Mark, Edge, mark, edge_of, edge_cmp, edges}
use Rattle.plane_graphs.proofs.Lists.{in_map, of_map, in_ascending, of_ascending, some_of}
use Rattle.plane_graphs.proofs.Meaning.{edge_cmp_total, edge_cmp_exact}
use Rattle.slab_laws.specs.declared.names.DartId.{DartId}
use Rattle.slab_laws.specs.Sound.{IsGraphSound}
use Rattle.slab_laws.specs.View.{View, point_in, source_in, target_in}
use Rattle.arr_notes.specs.Curves.{Curves, IsForward, AreCurvesOf}
use Rattle.arr_notes.specs.RecordGraph.{drawn_graph}
use Rattle.sound_views.specs.RecordGraphLaws.{IsMarkOf, GraphHolds}
use Rattle.sound_views.proofs.DartCurves.{curves_of_darts}
use Rattle.sound_views.proofs.GraphHolds.{graphs_hold}
use Rattle.curve_history.specs.Past.{curves_on}
use Rattle.told_steps.specs.LayerNames.{IsForwardOn, IsNamedBy, LayersAreNamed, edge_ahead}

module _ (v : View) (h : Curves) (s : IsGraphSound v) (a : AreCurvesOf v h) where
  abbrev drawn : Graph
  drawn = drawn_graph v h

  holds : GraphHolds v h
  holds = graphs_hold v h s

  edge_of_mark : (e : Edge) (m : Mark) → e ≡ edge_of m → (d : DartId) × IsMarkOf v h m d → (d : DartId) × IsForwardOn v e d
  edge_of_mark e m is d = (d.0, record { forward = d.1.forward; low = d.1.low ∙ ap (λ x. x.low) (sym is); high = d.1.high ∙ ap (λ x. x.high) (sym is) })

  edge_name : (e : Edge) → Member e (edges drawn) → (d : DartId) × IsForwardOn v e d
  unfolding edges
  edge_name e k =
      let m = of_map edge_of e drawn.marks (of_ascending edge_cmp edge_cmp_total edge_cmp_exact e (map edge_of drawn.marks) k) in
      edge_of_mark e m.0 m.2 ((holds.marks m.0).0 m.1)

  -- a forward dart has a curve, and so its edge has a mark
  name_edge : (d : DartId) → IsForward v d → Member (edge_ahead v d) (edges drawn)
  unfolding edges
  name_edge d f =
      let k = some_of (h d) (a.some d f) in
      let m = mark (point_in v (source_in v d)) (point_in v (target_in v d)) k.0 in
      in_ascending edge_cmp edge_cmp_total edge_cmp_exact (edge_ahead v d) (map edge_of drawn.marks)
      (in_map edge_of m drawn.marks ((holds.marks m).1 (d, record { forward = f; low = refl; high = refl; curve = k.1 })))

  pub drawn_named : IsNamedBy v h drawn
  drawn_named = record {
    vertex_name = λ x m. (holds.points x).0 m;
    name_vertex = λ w o. (holds.points (point_in v w)).1 (w, record { has = o; at = refl });
    edge_name = edge_name;
    name_edge = name_edge;
    curves = λ d f. sym (curves_of_darts v h d s a f);
    pin_name = λ x m. let w = (holds.pins x).0 m in (w.0, record { vertex = w.1; pinned = w.2 });
    name_pin = λ w o is. (holds.pins (point_in v w)).1 (w, record { has = o; at = refl }, is);
  }

pub layers_are_named : LayersAreNamed
layers_are_named v p l = subst (IsNamedBy v (curves_on p)) l.stands (drawn_named v (curves_on p) l.sound l.curves)
