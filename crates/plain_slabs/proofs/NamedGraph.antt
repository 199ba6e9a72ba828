-- What is read of records by name is the graph that they draw: it is plane, and has the records' lines.
use Rattle.std.proofs.Common.{◌≡◌, ◌≢◌, Bool, true, false, cond, ◌&&◌, refl, sym, ap, ◌∙◌, subst, List, [], ◌∷◌, map}
use Rattle.std.specs.List.{AllByRecursion, flat_map}
use Rattle.std.specs.List.Sorted.{IsStrictlyIncreasing}
use Rattle.std.specs.Option.{is_some}
use Rattle.std.specs.Ordering.{nat_cmp}
use Rattle.std.proofs.lemmas.Map.Keys.{sorted_from_strictly_increasing}
use Rattle.exact_plane.specs.PointOrderLaws.{and_true}
use Rattle.exact_plane.specs.Span.{Span}
use Rattle.plane_graphs.specs.Ascending.{Member, IsAscending}
use Rattle.plane_graphs.specs.Graph.{Graph, Mark, edges, mark_cmp}
use Rattle.plane_graphs.specs.Plane.{IsPlane}
use Rattle.plane_graphs.proofs.Ascending.{All-member, ascending_unique, from_std}
use Rattle.plane_graphs.proofs.Lists.{and_in, in_map, of_map, in_filter, clash}
use Rattle.plane_graphs.proofs.Order.{mark_cmp_total}
use Rattle.slab_laws.specs.declared.names.CurveId.{CurveId}
use Rattle.slab_laws.specs.declared.names.DartId.{DartId}
use Rattle.slab_laws.specs.SpansDrawn.{edge_of}
use Rattle.slab_laws.specs.Skeleton.{Skeleton}
use Rattle.slab_laws.specs.Sound.{IsGraphSound}
use Rattle.slab_laws.specs.Tables.{row_at}
use Rattle.slab_laws.specs.View.{View}
use Rattle.sound_views.specs.Orders.{dart_order}
use Rattle.sound_views.proofs.NamesOrdered.{dart_ordered}
use Rattle.arr_notes.specs.Curves.{Curves, is_forward, IsForward, AreCurvesOf}
use Rattle.arr_notes.specs.RecordGraph.{drawn_graph}
use Rattle.sound_views.specs.RecordGraphLaws.{IsMarkOf}
use Rattle.sound_views.proofs.GraphHolds.{graphs_hold}
use Rattle.sound_views.proofs.GraphDrawn.{graphs_are_drawn, graphs_are_plane}
use Rattle.record_orders.specs.Keys.{vertex_keys, dart_key, dart_keys}
use Rattle.present_graphs.specs.Marks.{mark_of}
use Rattle.plain_slabs.specs.ByName.{goes_forward, forward_keys, span_along, key_marks, AreParts}
use Rattle.subdivision_rows.specs.ByName.{numbers_of, points_at, pinned_among}
use Rattle.subdivision_rows.proofs.PinsByName.{graph_points, points_are, pins_are}
use Rattle.plain_slabs.specs.declared.names.Parts.{Parts}
use Rattle.subdivision_rows.specs.GraphInMemory.{graph_in}
use Rattle.plain_slabs.proofs.NamedEdges.{key_line, spans_are}
use Rattle.plain_slabs.proofs.NamedMarks.{graph_marks_ascend, marks_are}
use Rattle.plain_slabs.proofs.ReadKeys.{forward_member}
use Rattle.subdivision_rows.proofs.SpanLines.{IsAlongLine, lines_by_spans}
use Rattle.integers.proofs.Tests.{not_true}

-- ---- the curves of forward darts alone, which make the same graph
abbrev has_dart : View → DartId → Bool
has_dart v d = is_some (row_at v.darts d.0)

abbrev kept : View → Curves → Curves
kept v h d = cond (is_forward v d && has_dart v d) (h d) []

kept_there : (v : View) (h : Curves) (d : DartId) → IsForward v d → kept v h d ≡ h d
kept_there v h d f = ap (λ b. cond b (h d) []) (and_in f.1 f.0)

kept_none : (v : View) (h : Curves) (d : DartId) → (IsForward v d → ⊥) → kept v h d ≡ []
kept_none v h d f = ap (λ b. cond b (h d) []) (not_true (is_forward v d && has_dart v d) (λ e. let w = and_true (is_forward v d) (has_dart v d) e in f (w.1, w.0)))

kept_mark : (v : View) (h : Curves) (m : Mark) (d : DartId) → IsMarkOf v (kept v h) m d → IsMarkOf v h m d
kept_mark v h m d o = record { forward = o.forward; low = o.low; high = o.high; curve = subst (Member m.curve) (kept_there v h d o.forward) o.curve }

mark_kept : (v : View) (h : Curves) (m : Mark) (d : DartId) → IsMarkOf v h m d → IsMarkOf v (kept v h) m d
mark_kept v h m d o = record { forward = o.forward; low = o.low; high = o.high; curve = subst (Member m.curve) (sym (kept_there v h d o.forward)) o.curve }

module _ (v : View) (h : Curves) (s : IsGraphSound v) where
  marks_same : (drawn_graph v (kept v h)).marks ≡ (drawn_graph v h).marks
  marks_same =
      ascending_unique mark_cmp mark_cmp_total (drawn_graph v (kept v h)).marks (drawn_graph v h).marks (graph_marks_ascend v (kept v h)) (graph_marks_ascend v h)
      (λ m i. let w = ((graphs_hold v (kept v h) s).marks m).0 i in ((graphs_hold v h s).marks m).1 (w.0, kept_mark v h m w.0 w.1))
      (λ m i. let w = ((graphs_hold v h s).marks m).0 i in ((graphs_hold v (kept v h) s).marks m).1 (w.0, mark_kept v h m w.0 w.1))

  graph_same : drawn_graph v (kept v h) ≡ drawn_graph v h
  unfolding drawn_graph
  graph_same = λ i. record { points = (drawn_graph v h).points; marks = marks_same i; pins = (drawn_graph v h).pins }

-- ---- what was read
module _ (v : View) (c : DartId → List CurveId) (s : IsGraphSound v) (some : (d : DartId) → IsForward v d → c d ≢ []) (up : AllByRecursion (λ k. IsStrictlyIncreasing (numbers_of c k.name)) (forward_keys v)) where
  abbrev h : Curves
  h = numbers_of c

  not_empty : (xs : List CurveId) → xs ≢ [] → map (λ x. x.0) xs ≢ []
  not_empty xs f e = f (none xs e)
    where
      none : (xs : List CurveId) → map (λ x. x.0) xs ≡ [] → xs ≡ []
      none [] e = refl
      none (x ∷ xs) e = absurd (cc)

  forward_up : (d : DartId) → IsForward v d → IsAscending nat_cmp (h d)
  forward_up d f =
      let m = in_filter goes_forward (dart_key v d) (dart_keys v) (in_map (dart_key v) d (dart_order v) (dart_ordered v s d f.0)) f.1 in
      from_std nat_cmp (h d) (sorted_from_strictly_increasing (h d) (All-member (λ k. IsStrictlyIncreasing (numbers_of c k.name)) (dart_key v d) (forward_keys v) up m))

  kept_up : (d : DartId) → IsAscending nat_cmp (kept v h d)
  kept_up d = step (is_forward v d) refl (has_dart v d) refl
    where
      step : (a : Bool) → is_forward v d ≡ a → (b : Bool) → has_dart v d ≡ b → IsAscending nat_cmp (cond (a && b) (h d) [])
      step true e true i = forward_up d (i, e)
      step true e false i = tt
      step false e b i = tt

  are_curves : AreCurvesOf v (kept v h)
  are_curves = record {
    some = λ d f e. not_empty (c d) (some d f) (sym (kept_there v h d f) ∙ e);
    ascend = kept_up;
    without_dart = λ d f. kept_none v h d (λ w. f w.0);
    backward = λ d e. kept_none v h d (λ w. clash w.1 e);
  }

  module _ (p : Parts) (a : p.points.items ≡ points_at (vertex_keys v)) (b : map mark_of p.marks.items ≡ flat_map (key_marks c) (forward_keys v)) (e : p.pins.items ≡ points_at (pinned_among v (vertex_keys v))) (f : p.edges.items ≡ map (span_along v) (forward_keys v)) where
    abbrev read : Graph
    read = graph_in p.points.items p.marks.items p.pins.items

    graph_is : read ≡ drawn_graph v h
    graph_is = λ i. record {
      points = (a ∙ points_are v s ∙ sym (graph_points v h)) i;
      marks = (b ∙ marks_are v c s up) i;
      pins = (e ∙ pins_are v s h) i;
    }

    same : drawn_graph v (kept v h) ≡ read
    same = graph_same v h s ∙ sym graph_is

    spans_of_graph : map edge_of p.edges.items ≡ edges read
    spans_of_graph = ap (map edge_of) f ∙ spans_are v s ∙ sym (ap (λ (g : Skeleton). g.edges) (graphs_are_drawn v (kept v h) s are_curves)) ∙ ap edges same

    span_line : (t : Span) → Member t p.edges.items → IsAlongLine t
    span_line t m =
        let k = of_map (span_along v) t (forward_keys v) (subst (Member t) f m) in
        subst IsAlongLine (sym k.2) (key_line v k.0 s (forward_member v s k.0 k.1))

    pub are_parts : AreParts v c p
    are_parts = record {
      graph = graph_is;
      plane = subst IsPlane same (graphs_are_plane v (kept v h) s are_curves);
      edges_are = spans_of_graph;
      lines = lines_by_spans read p.edges.items spans_of_graph span_line;
    }
