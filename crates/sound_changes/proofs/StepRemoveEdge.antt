-- One edge fewer.
use Rattle.std.proofs.Common.{◌≡◌, ◌≢◌, Bool, false, not, [], sym, ap, ◌∙◌, subst, inl, inr}
use Rattle.std.specs.List.{filter}
use Rattle.exact_plane.specs.Point.{Point}
use Rattle.exact_plane.specs.PointOrderLaws.{and_true}
use Rattle.plane_graphs.specs.Ascending.{Member}
use Rattle.plane_graphs.specs.Line.{same_point}
use Rattle.plane_graphs.specs.Graph.{Graph, Mark, is_at}
use Rattle.plane_graphs.proofs.Lists.{and_in, not_in, not_out, clash, in_filter, of_filter}
use Rattle.plane_graphs.proofs.Order.{same_in, same_out}
use Rattle.slab_laws.specs.declared.names.DartId.{DartId}
use Rattle.slab_laws.specs.Sound.{IsNamed, IsTwinned, IsGraphSound}
use Rattle.slab_laws.specs.View.{View, HasDart, point_in, source_in, twin_in, next_in, target_in, line_in}
use Rattle.sound_views.proofs.NamedDarts.{twin_dart}
use Rattle.arr_notes.specs.ViewChanges.{redirect}
use Rattle.arr_notes.proofs.PairReads.{names_stay}
use Rattle.sound_changes.specs.EdgePlaces.{IsEdgeMore}
use Rattle.sound_changes.proofs.EdgeRemoved.{fewer}
use Rattle.sound_changes.proofs.RingsKept.{twinned_down, start_old, end_old, up, not_first}
use Rattle.edit_steps.specs.Steps.{RemoveEdge as RemoveEdgeAt, apply}
use Rattle.arr_notes.specs.declared.change.Change.TheVariants.{RemoveEdge}
use Rattle.arr_notes.specs.declared.faces.Unlinked.{Unlinked}
use Rattle.arr_notes.specs.Curves.{Curves, AreCurvesOf, IsForward, step_curves, is_forward}
use Rattle.arr_notes.specs.Step.{remove_edge}
use Rattle.arr_notes.proofs.Names.{cases_dart}
use Rattle.arr_notes.specs.RecordGraph.{drawn_graph}
use Rattle.sound_views.specs.RecordGraphLaws.{IsMarkOf}
use Rattle.sound_changes.specs.StepLaws.{IsApplied}
use Rattle.sound_changes.proofs.StepGraphs.{IsWithin, applied}
use Rattle.sound_changes.proofs.StepHolds.{mark_held, held_mark}
use Rattle.sound_changes.proofs.StepSameVertices.{same_points, same_pins}
use Rattle.sound_changes.proofs.StepCases.{IsSameWay, labelled, label_moves, curves_by, mark_moves, mark_moves_back, one_way, at_name, at_other, turned_way}

module _ (v : View) (d : DartId) (s : IsGraphSound v) (f : IsForward v d) where
  abbrev t : DartId
  t = twin_in v d

  abbrev g : View
  g = remove_edge v d t

  abbrev p : Point
  p = point_in v (source_in v d)

  abbrev q : Point
  q = point_in v (target_in v d)

  edge_more : IsEdgeMore g v d t (source_in v d) (target_in v d) (line_in v d)
  edge_more = fewer v d s f.0

  named : IsNamed g
  named =
      let first = redirect v d (next_in v t) in
      let closed = redirect first t (next_in v d) in
      (names_stay closed ((names_stay first ((names_stay v s.named).redirected d (next_in v t))).redirected t (next_in v d))).pair_less d t

  twinned : IsTwinned g
  twinned = twinned_down g v d t (source_in v d) (target_in v d) (line_in v d) edge_more s.twinned

  way : (x : DartId) → HasDart g x → IsSameWay g v x
  way x o = record {
    before = o;
    after = up g v d t (source_in v d) (target_in v d) (line_in v d) edge_more x o;
    start = start_old g v d t (source_in v d) (target_in v d) (line_in v d) edge_more x o;
    end = end_old g v d t (source_in v d) (target_in v d) (line_in v d) edge_more twinned x o;
  }

  not_d : (x : DartId) → HasDart g x → x ≢ d
  not_d x o = not_first g v d t (source_in v d) (target_in v d) (line_in v d) edge_more x o

  backward_t : is_forward v t ≡ false
  backward_t = ap (λ x. x.forward) (twin_dart v s d f.0) ∙ ap not f.1

  module _ (h : Curves) (a : AreCurvesOf v h) (faces : Unlinked) where
    abbrev less : Curves
    less = step_curves h (RemoveEdge d t faces)

    abbrev after : Graph
    after = apply (RemoveEdgeAt p q) (drawn_graph v h)

    abbrev stays : Mark → Bool
    stays n = not (is_at p q n)

    elsewhere : (x : DartId) → x ≢ d → less x ≡ h x
    elsewhere x ne = at_other x d [] (h x) ne

    mark_from : (n : Mark) (x : DartId) → IsMarkOf g less n x → Member n (filter stays (drawn_graph v h).marks)
    mark_from n x k =
        let ne = not_d x k.forward.0 in
        let j = mark_moves g v less h x n (way x k.forward.0) (sym (elsewhere x ne)) k in
        in_filter stays n (drawn_graph v h).marks (mark_held v s.named h n x j)
        (not_in (is_at p q n) (λ e.
        let b = and_true (same_point n.low p) (same_point n.high q) e in
        ne (one_way v x d s j.forward.0 f.0 (j.low ∙ same_out n.low p b.0) (j.high ∙ same_out n.high q b.1))))

    mark_into : (n : Mark) → Member n (filter stays (drawn_graph v h).marks) → Member n (drawn_graph g less).marks
    mark_into n m =
        let k = of_filter stays n (drawn_graph v h).marks m in
        let r = held_mark v s.named h n k.0 in
        let nd : r.0 ≢ d = λ e.
        let j = subst (IsMarkOf v h n) e r.1 in
        clash (and_in (same_in n.low p (sym j.low)) (same_in n.high q (sym j.high))) (not_out (is_at p q n) k.1) in
        let nt : r.0 ≢ t = λ e. clash (subst (IsMarkOf v h n) e r.1).forward.1 backward_t in
        mark_held g named less n r.0 (mark_moves_back g v less h r.0 n (way r.0 ((edge_more.others r.0 nd nt).had r.1.forward.0)) (sym (elsewhere r.0 nd)) r.1)

    less_from : IsWithin (drawn_graph g less) after
    unfolding apply
    less_from = record {
      points = λ x n. subst (Member x) (sym (same_points v g h less edge_more.vertices)) n;
      marks = λ n k. let r = held_mark g named less n k in mark_from n r.0 r.1;
      pins = λ x n. subst (Member x) (sym (same_pins v g h less edge_more.vertices)) n;
    }

    less_into : IsWithin after (drawn_graph g less)
    unfolding apply
    less_into = record {
      points = λ x n. subst (Member x) (same_points v g h less edge_more.vertices) n;
      marks = mark_into;
      pins = λ x n. subst (Member x) (same_pins v g h less edge_more.vertices) n;
    }

    none_elsewhere : (x : DartId) → ¬ HasDart g x → less x ≡ []
    none_elsewhere x none = elim (cases_dart x d) [
      | inl e ↦ ap less e ∙ at_name d [] (h d)
      | inr nd ↦ elsewhere x nd ∙ elim (cases_dart x t) [
        | inl e ↦ ap h e ∙ a.backward t backward_t
        | inr nt ↦ a.without_dart x (λ o. none ((edge_more.others x nd nt).had o))
      ]
    ]

    right : AreCurvesOf g less
    right = curves_by g less
        (λ x o. let k = way x o in label_moves v g h less x (turned_way g v x k) (elsewhere x (not_d x o)) (labelled v h x a k.after))
        none_elsewhere

    edge_gone : IsApplied v h (RemoveEdge d t faces)
    edge_gone = applied v h (RemoveEdge d t faces) right less_from less_into

    pub edge_removed : (m : DartId) → m ≡ t → IsApplied v h (RemoveEdge d m faces)
    edge_removed m e = subst (λ z. IsApplied v h (RemoveEdge d z faces)) (sym e) edge_gone
