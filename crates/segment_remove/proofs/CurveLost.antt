-- A curve that goes from one edge.
use Rattle.std.proofs.Common.{◌≡◌, ◌≢◌, ℕ, [], ◌∷◌, Bool, true, false, not, ◌&&◌, refl, sym, ap, ◌∙◌, subst}
use Rattle.std.specs.List.{filter, list_any}
use Rattle.exact_plane.specs.Point.{Point}
use Rattle.exact_plane.specs.PointOrderLaws.{and_true}
use Rattle.plane_graphs.specs.Ascending.{Member}
use Rattle.plane_graphs.specs.Graph.{Mark, mark, is_at, same_curve}
use Rattle.plane_graphs.specs.Line.{same_point}
use Rattle.plane_graphs.proofs.Lists.{and_in, any_in, any_out, both_ways, clash, not_out, of_filter}
use Rattle.plane_graphs.proofs.Order.{same_in, same_out, curve_in}
use Rattle.edit_steps.specs.Steps.{RemoveEdge as RemoveEdgeAt, RemoveCurve as RemoveCurveAt, less_step}
use Rattle.slab_laws.specs.declared.names.CurveId.{CurveId}
use Rattle.slab_laws.specs.declared.names.DartId.{DartId}
use Rattle.slab_laws.specs.Sound.{IsGraphSound}
use Rattle.slab_laws.specs.View.{View, HasDart, point_in, source_in, twin_in, target_in, line_in}
use Rattle.sound_changes.specs.EdgePlaces.{IsEdgeMore}
use Rattle.sound_changes.proofs.EdgeRemoved.{fewer}
use Rattle.sound_changes.proofs.RingsKept.{twinned_down, start_old, end_old}
use Rattle.arr_notes.specs.Curves.{Curves, IsForward, is_forward}
use Rattle.arr_notes.specs.MapView.{MapView}
use Rattle.arr_notes.specs.Step.{remove_edge}
use Rattle.arr_notes.specs.RecordGraph.{drawn_graph}
use Rattle.sound_views.proofs.GraphDrawn.{twins_are_directed}
use Rattle.sound_changes.proofs.StepHolds.{mark_held, held_mark}
use Rattle.sound_changes.proofs.StepCases.{IsSameWay, turned_way, unchanged_way, one_way, at_name, at_other}
use Rattle.observer_bus.specs.Rounds.{BusRow}
use Rattle.told_steps.specs.ToldRuns.{IsToldRun}
use Rattle.told_steps.proofs.ToldTogether.{told_runs_lawful}
use Rattle.segment_remove.specs.CurveLosses.{curves_lost, is_shared, loss_between, loss_step, view_lost, IsLossTold}

-- the loss is told by its step
pub curve_told : (v : MapView) (h : Curves) (b : BusRow) (d : DartId) (c : CurveId) (w : MapView) (k : Curves) (e : BusRow) (shared : Bool) → shared ≡ true → shared ≡ is_shared h d c.0 →
    IsToldRun v h b (RemoveCurveAt (point_in v.graph (source_in v.graph d)) (point_in v.graph (target_in v.graph d)) c.0 ∷ []) w k e → IsLossTold v h b d c w k e
curve_told v h b d c w k e shared is there told =
    told_runs_lawful.same_steps v h b _ (loss_step v.graph h d c ∷ []) w k e (ap (λ s. loss_between s (point_in v.graph (source_in v.graph d)) (point_in v.graph (target_in v.graph d)) c.0 ∷ []) (sym is ∙ there)) told

pub edge_told : (v : MapView) (h : Curves) (b : BusRow) (d : DartId) (c : CurveId) (w : MapView) (k : Curves) (e : BusRow) (shared : Bool) → shared ≡ false → shared ≡ is_shared h d c.0 →
    IsToldRun v h b (RemoveEdgeAt (point_in v.graph (source_in v.graph d)) (point_in v.graph (target_in v.graph d)) ∷ []) w k e → IsLossTold v h b d c w k e
edge_told v h b d c w k e shared is there told =
    told_runs_lawful.same_steps v h b _ (loss_step v.graph h d c ∷ []) w k e (ap (λ s. loss_between s (point_in v.graph (source_in v.graph d)) (point_in v.graph (target_in v.graph d)) c.0 ∷ []) (sym is ∙ there)) told

module _ (v : View) (h : Curves) (s : IsGraphSound v) (d : DartId) (f : IsForward v d) where
  abbrev p : Point
  p = point_in v (source_in v d)

  abbrev q : Point
  q = point_in v (target_in v d)

  abbrev t : DartId
  t = twin_in v d

  abbrev less : View
  less = remove_edge v d t

  -- ---- the step, by the graph that is drawn
  pub shared_drawn : (c : ℕ) → list_any (λ n. is_at p q n && not (same_curve n.curve c)) (drawn_graph v h).marks ≡ is_shared h d c
  shared_drawn c =
      both_ways _ _
      (λ e.
      let n = any_out (λ n. is_at p q n && not (same_curve n.curve c)) (drawn_graph v h).marks e in
      let b = and_true (is_at p q n.0) (not (same_curve n.0.curve c)) n.2 in
      let at = and_true (same_point n.0.low p) (same_point n.0.high q) b.0 in
      let r = held_mark v s.named h n.0 n.1 in
      let one : r.0 ≡ d = one_way v r.0 d s r.1.forward.0 f.0 (r.1.low ∙ same_out n.0.low p at.0) (r.1.high ∙ same_out n.0.high q at.1) in
      any_in (λ k. not (same_curve k c)) n.0.curve (h d) (subst (λ x. Member n.0.curve (h x)) one r.1.curve) b.1)
      (λ e.
      let k = any_out (λ k. not (same_curve k c)) (h d) e in
      let n : Mark = mark p q k.0 in
      any_in (λ n. is_at p q n && not (same_curve n.curve c)) n (drawn_graph v h).marks (mark_held v s.named h n d (record { forward = f; low = refl; high = refl; curve = k.1 }))
      (and_in (and_in (same_in p p refl) (same_in q q refl)) k.2))

  pub less_is_loss : (c : ℕ) → less_step (drawn_graph v h) (mark p q c) ≡ loss_between (is_shared h d c) p q c
  unfolding less_step
  less_is_loss c = ap (λ b. loss_between b p q c) (shared_drawn c)

  -- ---- what stays
  edge_more : IsEdgeMore less v d t (source_in v d) (target_in v d) (line_in v d)
  edge_more = fewer v d s f.0

  backward_t : is_forward v t ≡ false
  backward_t = twins_are_directed v s d f.0 ∙ ap not f.1

  way_without : (x : DartId) → x ≢ d → IsForward v x → IsSameWay v less x
  way_without x ne o =
      let k : HasDart less x = (edge_more.others x ne (λ e. clash (subst (λ z. is_forward v z ≡ true) e o.1) backward_t)).had o.0 in
      turned_way less v x (record {
        before = k;
        after = o.0;
        start = start_old less v d t (source_in v d) (target_in v d) (line_in v d) edge_more x k;
        end = end_old less v d t (source_in v d) (target_in v d) (line_in v d) edge_more (twinned_down less v d t (source_in v d) (target_in v d) (line_in v d) edge_more s.twinned) x k;
      })

  way_by : (b : Bool) (x : DartId) → x ≢ d → IsForward v x → IsSameWay v (view_lost b v d) x
  way_by true x ne o = unchanged_way v x o.0
  way_by false x ne o = way_without x ne o

  -- another forward dart has its way still
  pub way_stays : (c : CurveId) (x : DartId) → x ≢ d → IsForward v x → IsSameWay v (view_lost (is_shared h d c.0) v d) x
  way_stays c x ne o = way_by (is_shared h d c.0) x ne o

  -- and its curves
  pub curves_stay : (c : CurveId) (x : DartId) → x ≢ d → curves_lost (is_shared h d c.0) h d c x ≡ h x
  curves_stay c x ne = at_other x d _ (h x) ne

  vertices_by : (b : Bool) → (view_lost b v d).vertices ≡ v.vertices
  vertices_by true = refl
  vertices_by false = refl

  pub vertices_stay : (c : CurveId) → (view_lost (is_shared h d c.0) v d).vertices ≡ v.vertices
  vertices_stay c = vertices_by (is_shared h d c.0)

  -- the curve is gone from d
  lost_by : (c : CurveId) (b : Bool) → ¬ Member c.0 (curves_lost b h d c d)
  lost_by c true m =
      let k = of_filter (λ k. not (same_curve k c.0)) c.0 (h d) (subst (Member c.0) (at_name d (filter (λ k. not (same_curve k c.0)) (h d)) (h d)) m) in
      clash (curve_in c.0 c.0 refl) (not_out (same_curve c.0 c.0) k.1)
  lost_by c false m = subst (Member c.0) (at_name d [] (h d)) m

  pub lost : (c : CurveId) → ¬ Member c.0 (curves_lost (is_shared h d c.0) h d c d)
  lost c = lost_by c (is_shared h d c.0)
