-- A pin set, and a pin cleared.
use Rattle.std.proofs.Common.{◌≡◌, ◌≢◌, Bool, true, false, sym, ap, ◌∙◌, subst, inl, inr}
use Rattle.std.proofs.lemmas.Bool.{false≢true}
use Rattle.exact_plane.specs.Point.{Point}
use Rattle.plane_graphs.specs.Ascending.{Member}
use Rattle.plane_graphs.specs.Graph.{Graph}
use Rattle.slab_laws.specs.declared.names.DartId.{DartId}
use Rattle.slab_laws.specs.declared.names.VertexId.{VertexId}
use Rattle.slab_laws.specs.Sound.{IsNamed, IsGraphSound}
use Rattle.slab_laws.specs.View.{View, HasVertex, HasDart, point_in, pinned_in, source_in}
use Rattle.arr_notes.specs.Reads.{IsPinSet}
use Rattle.arr_notes.specs.ViewChanges.{with_pin}
use Rattle.arr_notes.proofs.PairReads.{names_stay}
use Rattle.arr_notes.proofs.VertexReads.{pin_is_set}
use Rattle.edit_steps.specs.Steps.{SetPin as SetPinAt, ClearPin as ClearPinAt, apply}
use Rattle.arr_notes.specs.declared.change.Change.TheVariants.{SetPin, ClearPin}
use Rattle.arr_notes.specs.Curves.{Curves, AreCurvesOf}
use Rattle.arr_notes.proofs.Names.{cases_vertex}
use Rattle.arr_notes.specs.RecordGraph.{drawn_graph}
use Rattle.sound_changes.specs.StepLaws.{IsApplied}
use Rattle.sound_changes.proofs.StepGraphs.{IsWithin, applied, in_without, of_without, in_points, of_points}
use Rattle.sound_changes.proofs.StepHolds.{point_held, held_point, mark_held, pin_held, held_pin, drawn_within}
use Rattle.sound_changes.proofs.StepSameDarts.{marks_kept, marks_known, curves_kept}

module _ (v : View) (w : VertexId) (b : Bool) (s : IsGraphSound v) (has : HasVertex v w) where
  abbrev g : View
  g = with_pin v w b

  set : IsPinSet v g w b
  set = pin_is_set v w b

  named : IsNamed g
  named = (names_stay v s.named).pin w b

  at : (d : DartId) → HasDart v d → point_in g (source_in v d) ≡ point_in v (source_in v d)
  at d o = set.point (source_in v d)

  module _ (h : Curves) where
    points_from : (u : VertexId) → HasVertex g u → Member (point_in g u) (drawn_graph v h).points
    points_from u o = subst (λ z. Member z (drawn_graph v h).points) (sym (set.point u)) (point_held v s.named h u (set.had u o))

    points_into : (q : Point) → Member q (drawn_graph v h).points → Member q (drawn_graph g h).points
    points_into q m = let r = held_point v s.named h q m in subst (λ z. Member z (drawn_graph g h).points) (set.point r.0 ∙ r.1.at) (point_held g named h r.0 (set.has r.0 r.1.has))

    -- another vertex's pin
    pin_from : (u : VertexId) → HasVertex g u → pinned_in g u ≡ true → u ≢ w → Member (point_in g u) (drawn_graph v h).pins
    pin_from u o e ne = let k = set.others u ne in subst (λ z. Member z (drawn_graph v h).pins) (sym k.point) (pin_held v s.named h u (k.had o) (sym k.pinned ∙ e))

    pin_into : (u : VertexId) (q : Point) → HasVertex v u → point_in v u ≡ q → pinned_in v u ≡ true → u ≢ w → Member q (drawn_graph g h).pins
    pin_into u q o p e ne = let k = set.others u ne in subst (λ z. Member z (drawn_graph g h).pins) (k.point ∙ p) (pin_held g named h u (k.has o) (k.pinned ∙ e))

-- ---- set
module _ (v : View) (w : VertexId) (s : IsGraphSound v) (has : HasVertex v w) (h : Curves) (a : AreCurvesOf v h) where
  abbrev pinned : View
  pinned = with_pin v w true

  abbrev with : Graph
  with = apply (SetPinAt (point_in v w)) (drawn_graph v h)

  set_from : IsWithin (drawn_graph pinned h) with
  unfolding apply
  set_from = drawn_within pinned (named v w true s has) h with
      (points_from v w true s has h)
      (λ m d k. marks_known v pinned s (named v w true s has) (set v w true s has).darts (at v w true s has) h m (mark_held pinned (named v w true s has) h m d k))
      (λ u o e. in_points (point_in pinned u) (point_in v w) (drawn_graph v h).pins (elim (cases_vertex u w) [
        | inl q ↦ inl ((set v w true s has).point u ∙ ap (point_in v) q)
        | inr ne ↦ inr (pin_from v w true s has h u o e ne)
      ]))

  set_into : IsWithin with (drawn_graph pinned h)
  unfolding apply
  set_into = record {
    points = points_into v w true s has h;
    marks = marks_kept v pinned s (named v w true s has) (set v w true s has).darts (at v w true s has) h;
    pins = λ q m.
        let at_w = subst (λ z. Member z (drawn_graph pinned h).pins) ((set v w true s has).point w) (pin_held pinned (named v w true s has) h w ((set v w true s has).has w has) ((set v w true s has).pinned has)) in
        elim (of_points q (point_in v w) (drawn_graph v h).pins m) [
          | inl e ↦ subst (λ z. Member z (drawn_graph pinned h).pins) (sym e) at_w
          | inr k ↦
              let r = held_pin v s.named h q k in
              elim (cases_vertex r.0 w) [
                | inl e ↦ subst (λ z. Member z (drawn_graph pinned h).pins) (ap (point_in v) (sym e) ∙ r.1.at) at_w
                | inr ne ↦ pin_into v w true s has h r.0 q r.1.has r.1.at r.2 ne
              ]
        ];
  }

  pub pin_set : IsApplied v h (SetPin w)
  pin_set = applied v h (SetPin w) (curves_kept v pinned s (named v w true s has) (set v w true s has).darts (at v w true s has) h a) set_from set_into

-- ---- cleared
module _ (v : View) (w : VertexId) (s : IsGraphSound v) (has : HasVertex v w) (h : Curves) (a : AreCurvesOf v h) where
  abbrev loose : View
  loose = with_pin v w false

  abbrev without : Graph
  without = apply (ClearPinAt (point_in v w)) (drawn_graph v h)

  not_pinned : (u : VertexId) → pinned_in loose u ≡ true → u ≢ w
  not_pinned u e q = false≢true (sym ((set v w false s has).pinned has) ∙ ap (pinned_in loose) (sym q) ∙ e)

  clear_from : IsWithin (drawn_graph loose h) without
  unfolding apply
  clear_from = drawn_within loose (named v w false s has) h without
      (points_from v w false s has h)
      (λ m d k. marks_known v loose s (named v w false s has) (set v w false s has).darts (at v w false s has) h m (mark_held loose (named v w false s has) h m d k))
      (λ u o e. in_without (point_in loose u) (point_in v w) (drawn_graph v h).pins (pin_from v w false s has h u o e (not_pinned u e))
      (λ q. not_pinned u e (s.drawn.points u w ((set v w false s has).had u o) has (sym ((set v w false s has).point u) ∙ q))))

  clear_into : IsWithin without (drawn_graph loose h)
  unfolding apply
  clear_into = record {
    points = points_into v w false s has h;
    marks = marks_kept v loose s (named v w false s has) (set v w false s has).darts (at v w false s has) h;
    pins = λ q m.
        let k = of_without q (point_in v w) (drawn_graph v h).pins m in
        let r = held_pin v s.named h q k.0 in
        pin_into v w false s has h r.0 q r.1.has r.1.at r.2 (λ e. k.1 (sym r.1.at ∙ ap (point_in v) e));
  }

  pub pin_cleared : IsApplied v h (ClearPin w)
  pin_cleared = applied v h (ClearPin w) (curves_kept v loose s (named v w false s has) (set v w false s has).darts (at v w false s has) h a) clear_from clear_into
