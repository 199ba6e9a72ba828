-- One curve fewer along an edge that has another one.
use Rattle.std.proofs.Common.{◌≡◌, ◌≢◌, ℕ, Bool, true, not, ◌&&◌, sym, ◌∙◌, subst, inl, inr, nat_cmp}
use Rattle.std.specs.List.{filter, list_any}
use Rattle.exact_plane.specs.Point.{Point}
use Rattle.exact_plane.specs.PointOrderLaws.{and_true}
use Rattle.plane_graphs.specs.Ascending.{Member, IsAscending}
use Rattle.plane_graphs.specs.Line.{same_point}
use Rattle.plane_graphs.specs.Graph.{Graph, Mark, is_at, same_curve}
use Rattle.plane_graphs.proofs.Lists.{and_in, not_in, not_out, clash, in_filter, of_filter, any_out, IsAscending-filter}
use Rattle.plane_graphs.proofs.Order.{same_in, same_out}
use Rattle.slab_laws.specs.declared.names.CurveId.{CurveId}
use Rattle.slab_laws.specs.declared.names.DartId.{DartId}
use Rattle.slab_laws.specs.Sound.{IsGraphSound}
use Rattle.slab_laws.specs.View.{View, HasDart, point_in, source_in, target_in}
use Rattle.edit_steps.specs.Steps.{RemoveCurve as RemoveCurveAt, apply}
use Rattle.arr_notes.specs.declared.change.Change.TheVariants.{RemoveCurve}
use Rattle.arr_notes.specs.Curves.{Curves, AreCurvesOf, IsForward, step_curves}
use Rattle.arr_notes.proofs.Names.{cases_dart}
use Rattle.arr_notes.specs.RecordGraph.{drawn_graph}
use Rattle.sound_views.specs.RecordGraphLaws.{IsMarkOf}
use Rattle.sound_changes.specs.StepLaws.{IsApplied}
use Rattle.sound_changes.proofs.StepGraphs.{IsWithin, applied}
use Rattle.sound_changes.proofs.StepHolds.{point_held, mark_held, held_mark, pin_held, drawn_within}
use Rattle.sound_changes.proofs.StepCases.{IsLabelled, labelled, label_moves, curves_by, mark_moves, mark_moves_back, unchanged_way, one_way, at_name, at_other, some_there}

module _ (v : View) (h : Curves) (d : DartId) (c : CurveId) (s : IsGraphSound v) (a : AreCurvesOf v h) (f : IsForward v d) (left : list_any (λ k. not (same_curve k c.0)) (h d) ≡ true) where
  abbrev less : Curves
  less = step_curves h (RemoveCurve d c)

  abbrev low : Point
  low = point_in v (source_in v d)

  abbrev high : Point
  high = point_in v (target_in v d)

  abbrev after : Graph
  after = apply (RemoveCurveAt low high c.0) (drawn_graph v h)

  abbrev is_other : ℕ → Bool
  is_other k = not (same_curve k c.0)

  abbrev stays : Mark → Bool
  stays m = not (is_at low high m && same_curve m.curve c.0)

  here : less d ≡ filter is_other (h d)
  here = at_name d (filter is_other (h d)) (h d)

  elsewhere : (x : DartId) → x ≢ d → less x ≡ h x
  elsewhere x ne = at_other x d (filter is_other (h x)) (h x) ne

  curve_in_less : (k : ℕ) → Member k (h d) → is_other k ≡ true → Member k (less d)
  curve_in_less k m e = subst (Member k) (sym here) (in_filter is_other k (h d) m e)

  of_less : (k : ℕ) → Member k (less d) → Member k (h d) × (is_other k ≡ true)
  of_less k m = of_filter is_other k (h d) (subst (Member k) here m)

  -- a mark between the ends of d is one of d
  its_mark : (m : Mark) (x : DartId) → IsMarkOf v h m x → is_at low high m ≡ true → x ≡ d
  its_mark m x k e = let b = and_true (same_point m.low low) (same_point m.high high) e in one_way v x d s k.forward.0 f.0 (k.low ∙ same_out m.low low b.0) (k.high ∙ same_out m.high high b.1)

  mark_from : (m : Mark) (x : DartId) → IsMarkOf v less m x → Member m (filter stays (drawn_graph v h).marks)
  mark_from m x k =
      elim (cases_dart x d) [
        | inl q ↦
            let k : IsMarkOf v less m d = subst (IsMarkOf v less m) q k in
            let e = of_less m.curve k.curve in
            in_filter stays m (drawn_graph v h).marks (mark_held v s.named h m d (record { forward = k.forward; low = k.low; high = k.high; curve = e.0 }))
            (not_in (is_at low high m && same_curve m.curve c.0) (λ b. clash (and_true (is_at low high m) (same_curve m.curve c.0) b).1 (not_out (same_curve m.curve c.0) e.1)))
        | inr ne ↦
            let k = mark_moves_back v v h less x m (unchanged_way v x k.forward.0) (elsewhere x ne) k in
            in_filter stays m (drawn_graph v h).marks (mark_held v s.named h m x k)
            (not_in (is_at low high m && same_curve m.curve c.0) (λ b. ne (its_mark m x k (and_true (is_at low high m) (same_curve m.curve c.0) b).0)))
      ]

  mark_into : (m : Mark) → Member m (filter stays (drawn_graph v h).marks) → Member m (drawn_graph v less).marks
  mark_into m n =
      let t = of_filter stays m (drawn_graph v h).marks n in
      let r = held_mark v s.named h m t.0 in
      elim (cases_dart r.0 d) [
        | inl q ↦
            let k : IsMarkOf v h m d = subst (IsMarkOf v h m) q r.1 in
            let e = not_in (same_curve m.curve c.0) (λ b. clash (and_in (and_in (same_in m.low low (sym k.low)) (same_in m.high high (sym k.high))) b) (not_out (is_at low high m && same_curve m.curve c.0) t.1)) in
            mark_held v s.named less m d (record { forward = k.forward; low = k.low; high = k.high; curve = curve_in_less m.curve k.curve e })
        | inr ne ↦ mark_held v s.named less m r.0 (mark_moves v v h less r.0 m (unchanged_way v r.0 r.1.forward.0) (elsewhere r.0 ne) r.1)
      ]

  less_from : IsWithin (drawn_graph v less) after
  unfolding apply
  less_from = drawn_within v s.named less after (point_held v s.named h) mark_from (pin_held v s.named h)

  less_into : IsWithin after (drawn_graph v less)
  unfolding apply drawn_graph
  less_into = record { points = λ p m. m; marks = mark_into; pins = λ p m. m }

  right_here : IsLabelled v less d
  right_here = record {
    some = λ e. let k = any_out is_other (h d) left in some_there k.0 (less d) (curve_in_less k.0 k.1 k.2);
    ascend = subst (IsAscending nat_cmp) (sym here) (IsAscending-filter nat_cmp is_other (h d) (a.ascend d));
    backward = λ e. clash f.1 e;
  }

  right : AreCurvesOf v less
  right = curves_by v less
      (λ x o. elim (cases_dart x d) [
        | inl q ↦ subst (IsLabelled v less) (sym q) right_here
        | inr ne ↦ label_moves v v h less x (unchanged_way v x o) (elsewhere x ne) (labelled v h x a o)
      ])
      (λ x none. elsewhere x (λ q. none (subst (HasDart v) (sym q) f.0)) ∙ a.without_dart x none)

  pub curve_removed : IsApplied v h (RemoveCurve d c)
  curve_removed = applied v h (RemoveCurve d c) right less_from less_into
