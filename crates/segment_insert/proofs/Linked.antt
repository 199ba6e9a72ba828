-- One more curve along an open part: on the edge that runs there, or on a new one.
use Rattle.std.proofs.Common.{◌≡◌, ◌≢◌, ℕ, List, [], ◌∷◌, true, false, Option, Some, None, refl, sym, ap, ap₂, ◌∙◌, subst, inl, inr}
use Rattle.std.specs.List.{list_any}
use Rattle.exact_plane.specs.Line.{Line}
use Rattle.exact_plane.specs.Point.{Point}
use Rattle.exact_plane.specs.PointOrderLaws.{and_true}
use Rattle.plane_graphs.specs.Ascending.{Member, ascending}
use Rattle.plane_graphs.specs.Graph.{Graph, Mark, Edge, mark, is_at, edge_cmp, edge_of, edges}
use Rattle.plane_graphs.specs.Plane.{IsPlane}
use Rattle.plane_graphs.proofs.Ascending.{ascending_unique, IsAscending-ascending}
use Rattle.plane_graphs.proofs.Lists.{and_in, any_in, any_out, in_ascending, of_ascending}
use Rattle.plane_graphs.proofs.Meaning.{edge_cmp_total, edge_cmp_exact, edges_ascend, edge_out, edge_in as edge_there}
use Rattle.plane_graphs.proofs.Order.{same_out, same_in}
use Rattle.edit_steps.specs.Allowed.{IsAllowed, IsSound}
use Rattle.edit_steps.specs.EditLaws.{hold_step}
use Rattle.edit_steps.specs.Steps.{AddCurve as AddCurveAt, AddEdge as AddEdgeAt, more_step, apply}
use Rattle.slab_laws.specs.declared.names.CurveId.{CurveId}
use Rattle.slab_laws.specs.declared.names.DartId.{DartId}
use Rattle.slab_laws.specs.declared.names.VertexId.{VertexId}
use Rattle.slab_laws.specs.Skeleton.{IsPlaneSkeleton}
use Rattle.slab_laws.specs.Sound.{IsGraphSound, skeleton_of, edge_between}
use Rattle.slab_laws.specs.Text.{skeleton}
use Rattle.slab_laws.specs.View.{View, IsOutOf, point_in, source_in, target_in}
use Rattle.slab_faces.proofs.PlaneGraphs.{counts}
use Rattle.arr_notes.specs.Curves.{Curves, AreCurvesOf, IsForward}
use Rattle.arr_notes.specs.MapView.{MapView}
use Rattle.arr_notes.specs.RecordGraph.{drawn_graph}
use Rattle.arr_notes.specs.Step.{add_edge}
use Rattle.sound_views.proofs.GraphDrawn.{graphs_are_drawn}
use Rattle.sound_changes.proofs.StepGraphs.{of_marks, in_marks}
use Rattle.sound_changes.proofs.StepHolds.{mark_held, held_mark}
use Rattle.sound_changes.specs.EdgePlaces.{dart_between, IsPlaceFor}
use Rattle.sound_changes.proofs.SplitCases.{ahead_by}
use Rattle.edge_link.specs.Links.{CanLink, with_edge_between}
use Rattle.curve_history.specs.Past.{Past}
use Rattle.observer_bus.specs.Rounds.{BusRow}
use Rattle.told_steps.proofs.ToldTogether.{told_runs_lawful}
use Rattle.told_steps.specs.StrandRuns.{IsStrandRun}
use Rattle.told_steps.specs.ToldRuns.{IsToldRun}
use Rattle.segment_insert.specs.Parts.{IsOpenPart}
use Rattle.segment_insert.proofs.Makes.{some_curve, on_edge_there, on_new_edge}
use Rattle.segment_insert.proofs.PartDarts.{two_ends}
use Rattle.integers.proofs.Tests.{not_true}

-- one more edge leaves the vertices
pub vertices_stay : (v g : View) (d m : DartId) (u w : VertexId) (at_u at_w : Option DartId) (l : Line) → g ≡ add_edge v d m u w at_u at_w l → g.vertices ≡ v.vertices
vertices_stay v g d m u w None None l e = ap (λ z. z.vertices) e
vertices_stay v g d m u w None (Some b) l e = ap (λ z. z.vertices) e
vertices_stay v g d m u w (Some a) None l e = ap (λ z. z.vertices) e
vertices_stay v g d m u w (Some a) (Some b) l e = ap (λ z. z.vertices) e

module _ (v : View) (h : Curves) (s : IsGraphSound v) (a : AreCurvesOf v h) (l : Line) (u w : VertexId) (o : IsOpenPart v l u w) (c : CurveId) where
  abbrev p : Point
  p = point_in v u

  abbrev q : Point
  q = point_in v w

  abbrev new_mark : Mark
  new_mark = mark p q c.0

  abbrev here : Graph
  here = drawn_graph v h

  -- ---- an edge runs there
  module _ (d : DartId) (f : IsForward v d) (at_u : source_in v d ≡ u) (at_w : target_in v d ≡ w) where
    starts : point_in v (source_in v d) ≡ p
    starts = ap (point_in v) at_u

    ends : point_in v (target_in v d) ≡ q
    ends = ap (point_in v) at_w

    some_mark : list_any (is_at p q) here.marks ≡ true
    some_mark =
        let k = some_curve v h d a f in
        any_in (is_at p q) (mark p q k.0) here.marks (mark_held v s.named h (mark p q k.0) d (record { forward = f; low = starts; high = ends; curve = k.1 })) (and_in (same_in p p refl) (same_in q q refl))

    pub more_is_curve : more_step here new_mark ≡ AddCurveAt p q c.0
    more_is_curve = on_edge_there new_mark here some_mark

    -- the curve isn't there yet
    pub not_held : IsSound (more_step here new_mark) here → ¬ Member c.0 (h d)
    unfolding IsAllowed
    not_held k m = (subst (λ t. IsAllowed t here) more_is_curve k.allowed).1 (mark_held v s.named h new_mark d (record { forward = f; low = starts; high = ends; curve = m }))

    -- a side of it comes from u to w
    pub side_there : (p : Past) (z : ℕ) (g : View) (q : Past) → IsStrandRun v p (AddCurveAt (point_in v (source_in v d)) (point_in v (target_in v d)) z ∷ []) g q → IsStrandRun v p (hold_step (mark (point_in v u) (point_in v w) z) ∷ []) g q
    side_there p z g q t = subst (λ s. IsStrandRun v p (s ∷ []) g q) (ap₂ (λ x y. AddCurveAt x y z) starts ends) t

    pub curve_told : (o : MapView) (b e : BusRow) (k : Curves) → IsToldRun o h b (AddCurveAt (point_in v (source_in v d)) (point_in v (target_in v d)) c.0 ∷ []) o k e → IsToldRun o h b (more_step here new_mark ∷ []) o k e
    curve_told o b e k t = told_runs_lawful.same_steps o h b _ (more_step here new_mark ∷ []) o k e (ap₂ (λ x y. AddCurveAt x y c.0 ∷ []) starts ends ∙ ap (λ z. z ∷ []) (sym more_is_curve)) t

  -- ---- none does
  module _ (none : (d : DartId) → IsOutOf v u d → target_in v d ≢ w) where
    no_mark : list_any (is_at p q) here.marks ≡ false
    no_mark = not_true _ (λ e.
        let m = any_out (is_at p q) here.marks e in
        let d = held_mark v s.named h m.0 m.1 in
        let at = and_true _ _ m.2 in
        let has = d.1.forward.0 in
        let su = s.drawn.points (source_in v d.0) u (s.linked.source d.0 has) o.start (d.1.low ∙ same_out m.0.low p at.0) in
        let tw = s.drawn.points (target_in v d.0) w (s.linked.source _ (s.twinned.has d.0 has)) o.end (d.1.high ∙ same_out m.0.high q at.1) in
        none d.0 (has, su) tw)

    pub more_is_edge : more_step here new_mark ≡ AddEdgeAt p q c.0
    more_is_edge = on_new_edge new_mark here no_mark

    abbrev after : Graph
    after = apply (AddEdgeAt p q c.0) here

    abbrev listed : List Edge
    listed = ascending edge_cmp (edge_between p q ∷ (skeleton_of v).edges)

    ahead : edge_between p q ≡ edge_of new_mark
    ahead = ap (λ d. d.edge) (ahead_by p q o.forward)

    drawn : edges here ≡ (skeleton_of v).edges
    drawn = ap (λ g. g.edges) (graphs_are_drawn v h s a)

    old_edge : (e : Edge) (n : Mark) → e ≡ edge_of n → Member n here.marks → Member e (skeleton_of v).edges
    old_edge e n k m = subst (λ es. Member e es) drawn (subst (λ z. Member z (edges here)) (sym k) (edge_there here n m))

    into : (e : Edge) → Member e (edges after) → Member e listed
    unfolding apply
    into e m =
        let n = edge_out after e m in
        in_ascending edge_cmp edge_cmp_total edge_cmp_exact e (edge_between p q ∷ (skeleton_of v).edges)
        (elim (of_marks n.0 new_mark here.marks n.1) [
          | inl k ↦ inl (n.2 ∙ ap edge_of k ∙ sym ahead)
          | inr k ↦ inr (old_edge e n.0 n.2 k)
        ])

    from : (e : Edge) → Member e listed → Member e (edges after)
    unfolding apply
    from e m = elim (of_ascending edge_cmp edge_cmp_total edge_cmp_exact e (edge_between p q ∷ (skeleton_of v).edges) m) [
      | inl k ↦ subst (λ z. Member z (edges after)) (sym (k ∙ ahead)) (edge_there after new_mark (in_marks new_mark new_mark here.marks (inl refl)))
      | inr k ↦
          let n = edge_out here e (subst (λ es. Member e es) (sym drawn) k) in
          subst (λ z. Member z (edges after)) (sym n.2) (edge_there after n.0 (in_marks n.0 new_mark here.marks (inr n.1)))
    ]

    drawn_after : skeleton after ≡ with_edge_between v u w
    unfolding apply drawn_graph
    drawn_after =
        let e = ascending_unique edge_cmp edge_cmp_total (edges after) listed (edges_ascend after) (IsAscending-ascending edge_cmp edge_cmp_total (edge_between p q ∷ (skeleton_of v).edges)) into from in
        λ i. record { vertices = (skeleton_of v).vertices; edges = e i }

    plane_after : IsSound (more_step here new_mark) here → IsPlaneSkeleton (with_edge_between v u w)
    plane_after k = subst IsPlaneSkeleton drawn_after (counts after (subst (λ t. IsPlane (apply t here)) more_is_edge k.plane))

    pub can_link : (at_u at_w : Option DartId) → IsPlaceFor v u at_u (dart_between p q) → IsPlaceFor v w at_w (dart_between q p) → IsSound (more_step here new_mark) here → CanLink v u w at_u at_w l
    can_link at_u at_w place_u place_w k = record {
      start = o.start;
      end = o.end;
      two_ends = two_ends v s l u w o;
      through_start = o.through_start;
      through_end = o.through_end;
      place_at_start = place_u;
      place_at_end = place_w;
      plane = plane_after k;
    }

    pub edge_told : (o : MapView) (b d : BusRow) (g : MapView) (k : Curves) → IsToldRun o h b (AddEdgeAt p q c.0 ∷ []) g k d → IsToldRun o h b (more_step here new_mark ∷ []) g k d
    edge_told o b d g k t = told_runs_lawful.same_steps o h b _ (more_step here new_mark ∷ []) g k d (ap (λ z. z ∷ []) (sym more_is_edge)) t
