-- One more edge, of one curve.
use Rattle.std.proofs.Common.{◌≡◌, ◌≢◌, ◌⊎◌, Option, [], ◌∷◌, true, refl, sym, ap, ◌∙◌, subst, inl, inr, nat_cmp}
use Rattle.exact_plane.specs.Line.{Line}
use Rattle.exact_plane.specs.Point.{Point}
use Rattle.plane_graphs.specs.Ascending.{Member, IsAscending}
use Rattle.plane_graphs.specs.Line.{precedes}
use Rattle.plane_graphs.specs.Graph.{Graph, Mark, mark}
use Rattle.plane_graphs.proofs.Lists.{clash}
use Rattle.plane_graphs.proofs.Marks.{mark_path}
use Rattle.plane_graphs.proofs.Order.{lt_out, lt_never, lt_both}
use Rattle.slab_laws.specs.declared.names.CurveId.{CurveId}
use Rattle.slab_laws.specs.declared.names.DartId.{DartId}
use Rattle.slab_laws.specs.declared.names.VertexId.{VertexId}
use Rattle.slab_laws.specs.Sound.{IsNamed, IsGraphSound}
use Rattle.slab_laws.specs.View.{View, HasDart, point_in, source_in, target_in}
use Rattle.sound_changes.specs.EdgePlaces.{FitsAddedEdge, IsEdgeMore}
use Rattle.sound_changes.proofs.EdgeAdded.{more, named as added_named}
use Rattle.sound_changes.proofs.RingsKept.{swapped, up, point_same, twinned_up, start_old, end_old}
use Rattle.edit_steps.specs.Steps.{AddEdge as AddEdgeAt, apply}
use Rattle.arr_notes.specs.declared.change.Change.TheVariants.{AddEdge}
use Rattle.arr_notes.specs.declared.faces.Linked.{Linked}
use Rattle.arr_notes.specs.Curves.{Curves, AreCurvesOf, step_curves, is_forward}
use Rattle.arr_notes.specs.Step.{add_edge}
use Rattle.arr_notes.proofs.Names.{cases_dart}
use Rattle.arr_notes.specs.RecordGraph.{drawn_graph}
use Rattle.sound_views.specs.RecordGraphLaws.{IsMarkOf}
use Rattle.sound_changes.specs.StepLaws.{IsApplied}
use Rattle.sound_changes.proofs.StepGraphs.{IsWithin, applied, in_marks, of_marks}
use Rattle.sound_changes.proofs.StepHolds.{mark_held, held_mark}
use Rattle.sound_changes.proofs.StepSameVertices.{same_points, same_pins}
use Rattle.sound_changes.proofs.StepSkeletons.{IsPaired, ends_apart}
use Rattle.sound_changes.proofs.StepCases.{IsSameWay, IsLabelled, labelled, label_moves, curves_by, mark_moves, mark_moves_back, at_name, at_other, some_there}

-- the ends of a new dart
module _ (v g : View) (d m : DartId) (u w : VertexId) (l : Line) (p : IsEdgeMore v g d m u w l) where
  pub new_start : point_in g (source_in g d) ≡ point_in v u
  new_start = ap (point_in g) p.source_first ∙ point_same v g d m u w l p u

  pub new_end : point_in g (target_in g d) ≡ point_in v w
  new_end = ap (λ z. point_in g (source_in g z)) p.twin_first ∙ ap (point_in g) p.source_second ∙ point_same v g d m u w l p w

module _ (v : View) (d m : DartId) (u w : VertexId) (at_u at_w : Option DartId) (l : Line) (s : IsGraphSound v) (f : FitsAddedEdge v d m u w at_u at_w l) (forward : precedes (point_in v u) (point_in v w) ≡ true) where
  abbrev g : View
  g = add_edge v d m u w at_u at_w l

  abbrev p : Point
  p = point_in v u

  abbrev q : Point
  q = point_in v w

  edge_more : IsEdgeMore v g d m u w l
  edge_more = more v d m u w at_u at_w l s f

  turned : IsEdgeMore v g m d w u l
  turned = swapped v g d m u w l edge_more

  named : IsNamed g
  named = added_named v d m u w at_u at_w l s f

  apart : p ≢ q
  apart e = lt_never (lt_out p p (subst (λ z. precedes p z ≡ true) (sym e) forward))

  start_d : point_in g (source_in g d) ≡ p
  start_d = new_start v g d m u w l edge_more

  end_d : point_in g (target_in g d) ≡ q
  end_d = new_end v g d m u w l edge_more

  start_m : point_in g (source_in g m) ≡ q
  start_m = new_start v g m d w u l turned

  end_m : point_in g (target_in g m) ≡ p
  end_m = new_end v g m d w u l turned

  way : (x : DartId) → HasDart v x → IsSameWay v g x
  way x o = record { before = o; after = up v g d m u w l edge_more x o; start = start_old v g d m u w l edge_more x o; end = end_old v g d m u w l edge_more s.twinned x o }

  -- a dart of the new view is d, m, or an old one
  three : (P : DartId → Type 0) → P d → P m → ((x : DartId) → HasDart v x → x ≢ d → x ≢ m → P x) → (x : DartId) → HasDart g x → P x
  three P at_d at_m old x o =
      elim (cases_dart x d) [
        | inl e ↦ subst P (sym e) at_d
        | inr nd ↦ elim (cases_dart x m) [ inl e ↦ subst P (sym e) at_m | inr nm ↦ old x ((edge_more.others x nd nm).had o) nd nm ]
      ]

  not_d : (x : DartId) → HasDart v x → x ≢ d
  not_d x o e = f.first_new (subst (HasDart v) e o)

  forward_d : is_forward g d ≡ true
  forward_d = (λ i. precedes (start_d i) (end_d i)) ∙ forward

  not_forward_m : is_forward g m ≡ true → ⊥
  not_forward_m e = lt_both (lt_out p q forward) (lt_out q p (sym (λ i. precedes (start_m i) (end_m i)) ∙ e))

  pub edge_more_paired : IsPaired g
  edge_more_paired =
      let t = twinned_up v g d m u w l edge_more s.twinned in
      record {
        named = named;
        has = t.has;
        back = t.back;
        apart = three (λ x. point_in g (source_in g x) ≢ point_in g (target_in g x))
            (λ e. apart (sym start_d ∙ e ∙ end_d))
            (λ e. apart (sym end_m ∙ sym e ∙ start_m))
            (λ x o nd nm e. let k = way x o in ends_apart v x s o (sym k.start ∙ e ∙ k.end));
      }

  module _ (h : Curves) (a : AreCurvesOf v h) (c : CurveId) (faces : Linked) where
    abbrev with_curve : Curves
    with_curve = step_curves h (AddEdge d m u w at_u at_w l c faces)

    abbrev after : Graph
    after = apply (AddEdgeAt p q c.0) (drawn_graph v h)

    here : with_curve d ≡ c.0 ∷ []
    here = at_name d (c.0 ∷ []) (h d)

    elsewhere : (x : DartId) → x ≢ d → with_curve x ≡ h x
    elsewhere x ne = at_other x d (c.0 ∷ []) (h x) ne

    mark_of_d : (n : Mark) → IsMarkOf g with_curve n d → n ≡ mark p q c.0
    mark_of_d n k = elim (subst (Member n.curve) here k.curve) [
      | inl e ↦ mark_path n p q c.0 (sym k.low ∙ start_d) (sym k.high ∙ end_d) e
      | inr e ↦ absurd e
    ]

    mark_from : (n : Mark) → (x : DartId) → HasDart g x → IsMarkOf g with_curve n x → (n ≡ mark p q c.0) ⊎ Member n (drawn_graph v h).marks
    mark_from n = three (λ x. IsMarkOf g with_curve n x → (n ≡ mark p q c.0) ⊎ Member n (drawn_graph v h).marks)
        (λ k. inl (mark_of_d n k))
        (λ k. absurd (not_forward_m k.forward.1))
        (λ x o nd nm k. inr (mark_held v s.named h n x (mark_moves_back v g h with_curve x n (way x o) (elsewhere x nd) k)))

    mark_into : (n : Mark) → (n ≡ mark p q c.0) ⊎ Member n (drawn_graph v h).marks → Member n (drawn_graph g with_curve).marks
    mark_into n (inl e) = mark_held g named with_curve n d (record {
      forward = (edge_more.first, forward_d);
      low = start_d ∙ ap (λ z. z.low) (sym e);
      high = end_d ∙ ap (λ z. z.high) (sym e);
      curve = subst (Member n.curve) (sym here) (inl (ap (λ z. z.curve) e));
    })
    mark_into n (inr k) =
        let r = held_mark v s.named h n k in
        mark_held g named with_curve n r.0 (mark_moves v g h with_curve r.0 n (way r.0 r.1.forward.0) (elsewhere r.0 (not_d r.0 r.1.forward.0)) r.1)

    more_from : IsWithin (drawn_graph g with_curve) after
    unfolding apply
    more_from = record {
      points = λ x n. subst (Member x) (same_points g v with_curve h edge_more.vertices) n;
      marks = λ n k. let r = held_mark g named with_curve n k in in_marks n (mark p q c.0) (drawn_graph v h).marks (mark_from n r.0 r.1.forward.0 r.1);
      pins = λ x n. subst (Member x) (same_pins g v with_curve h edge_more.vertices) n;
    }

    more_into : IsWithin after (drawn_graph g with_curve)
    unfolding apply
    more_into = record {
      points = λ x n. subst (Member x) (sym (same_points g v with_curve h edge_more.vertices)) n;
      marks = λ n k. mark_into n (of_marks n (mark p q c.0) (drawn_graph v h).marks k);
      pins = λ x n. subst (Member x) (sym (same_pins g v with_curve h edge_more.vertices)) n;
    }

    no_curves_at_m : with_curve m ≡ []
    no_curves_at_m = elsewhere m (λ e. f.two_names (sym e)) ∙ a.without_dart m f.second_new

    right : AreCurvesOf g with_curve
    right = curves_by g with_curve
        (three (IsLabelled g with_curve)
        (record { some = λ e. some_there c.0 (with_curve d) (subst (Member c.0) (sym here) (inl refl)); ascend = subst (IsAscending nat_cmp) (sym here) (tt, tt); backward = λ e. clash forward_d e })
        (record { some = λ e. absurd (not_forward_m e); ascend = subst (IsAscending nat_cmp) (sym no_curves_at_m) tt; backward = λ e. no_curves_at_m })
        (λ x o nd nm. label_moves v g h with_curve x (way x o) (elsewhere x nd) (labelled v h x a o)))
        (λ x none. elsewhere x (λ e. none (subst (HasDart g) (sym e) edge_more.first)) ∙ a.without_dart x (λ o. none (way x o).after))

    pub edge_added : IsApplied v h (AddEdge d m u w at_u at_w l c faces)
    edge_added = applied v h (AddEdge d m u w at_u at_w l c faces) right more_from more_into
