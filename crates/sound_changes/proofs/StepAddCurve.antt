-- One more curve along an edge.
use Rattle.std.proofs.Common.{◌≡◌, ◌≢◌, ◌⊎◌, ℕ, refl, sym, ap, ◌∙◌, subst, inl, inr, nat_cmp}
use Rattle.std.proofs.lemmas.Cmp.{nat_cmp_total}
use Rattle.exact_plane.specs.Point.{Point}
use Rattle.plane_graphs.specs.Ascending.{Member, IsAscending, place}
use Rattle.plane_graphs.specs.Graph.{Graph, Mark, mark}
use Rattle.plane_graphs.proofs.Ascending.{IsAscending-place}
use Rattle.plane_graphs.proofs.Lists.{clash, in_place, of_place}
use Rattle.plane_graphs.proofs.Marks.{mark_path}
use Rattle.slab_laws.specs.declared.names.CurveId.{CurveId}
use Rattle.slab_laws.specs.declared.names.DartId.{DartId}
use Rattle.slab_laws.specs.Sound.{IsGraphSound}
use Rattle.slab_laws.specs.View.{View, HasDart, point_in, source_in, target_in}
use Rattle.edit_steps.specs.Steps.{AddCurve as AddCurveAt, apply}
use Rattle.arr_notes.specs.declared.change.Change.TheVariants.{AddCurve}
use Rattle.arr_notes.specs.Curves.{Curves, AreCurvesOf, IsForward, step_curves}
use Rattle.arr_notes.proofs.Names.{cases_dart}
use Rattle.arr_notes.specs.RecordGraph.{drawn_graph}
use Rattle.sound_views.specs.RecordGraphLaws.{IsMarkOf}
use Rattle.sound_changes.specs.StepLaws.{IsApplied}
use Rattle.sound_changes.proofs.StepGraphs.{IsWithin, applied, in_marks, of_marks}
use Rattle.sound_changes.proofs.StepHolds.{point_held, mark_held, held_mark, pin_held, drawn_within}
use Rattle.sound_changes.proofs.StepCases.{IsLabelled, labelled, label_moves, curves_by, mark_moves, mark_moves_back, unchanged_way, at_name, at_other, some_there}
use Rattle.integers.proofs.Tests.{nat_exact}

module _ (v : View) (h : Curves) (d : DartId) (c : CurveId) (s : IsGraphSound v) (a : AreCurvesOf v h) (f : IsForward v d) where
  abbrev more : Curves
  more = step_curves h (AddCurve d c)

  abbrev low : Point
  low = point_in v (source_in v d)

  abbrev high : Point
  high = point_in v (target_in v d)

  abbrev after : Graph
  after = apply (AddCurveAt low high c.0) (drawn_graph v h)

  here : more d ≡ place nat_cmp c.0 (h d)
  here = at_name d (place nat_cmp c.0 (h d)) (h d)

  elsewhere : (x : DartId) → x ≢ d → more x ≡ h x
  elsewhere x ne = at_other x d (place nat_cmp c.0 (h x)) (h x) ne

  curve_in_more : (k : ℕ) → (k ≡ c.0) ⊎ Member k (h d) → Member k (more d)
  curve_in_more k e = subst (Member k) (sym here) (in_place nat_cmp nat_cmp_total nat_exact k c.0 (h d) e)

  of_more : (k : ℕ) → Member k (more d) → (k ≡ c.0) ⊎ Member k (h d)
  of_more k m = of_place nat_cmp nat_cmp_total nat_exact k c.0 (h d) (subst (Member k) here m)

  mark_from : (m : Mark) (x : DartId) → IsMarkOf v more m x → (m ≡ mark low high c.0) ⊎ Member m (drawn_graph v h).marks
  mark_from m x k =
      elim (cases_dart x d) [
        | inl q ↦
            let k : IsMarkOf v more m d = subst (IsMarkOf v more m) q k in
            elim (of_more m.curve k.curve) [
              | inl e ↦ inl (mark_path m low high c.0 (sym k.low) (sym k.high) e)
              | inr e ↦ inr (mark_held v s.named h m d (record { forward = k.forward; low = k.low; high = k.high; curve = e }))
            ]
        | inr ne ↦ inr (mark_held v s.named h m x (mark_moves_back v v h more x m (unchanged_way v x k.forward.0) (elsewhere x ne) k))
      ]

  mark_into : (m : Mark) → (m ≡ mark low high c.0) ⊎ Member m (drawn_graph v h).marks → Member m (drawn_graph v more).marks
  mark_into m (inl e) = mark_held v s.named more m d (record { forward = f; low = ap (λ z. z.low) (sym e); high = ap (λ z. z.high) (sym e); curve = curve_in_more m.curve (inl (ap (λ z. z.curve) e)) })
  mark_into m (inr n) =
      let r = held_mark v s.named h m n in
      elim (cases_dart r.0 d) [
        | inl q ↦
            let k : IsMarkOf v h m d = subst (IsMarkOf v h m) q r.1 in
            mark_held v s.named more m d (record { forward = k.forward; low = k.low; high = k.high; curve = curve_in_more m.curve (inr k.curve) })
        | inr ne ↦ mark_held v s.named more m r.0 (mark_moves v v h more r.0 m (unchanged_way v r.0 r.1.forward.0) (elsewhere r.0 ne) r.1)
      ]

  more_from : IsWithin (drawn_graph v more) after
  unfolding apply
  more_from = drawn_within v s.named more after (point_held v s.named h) (λ m x k. in_marks m (mark low high c.0) (drawn_graph v h).marks (mark_from m x k)) (pin_held v s.named h)

  more_into : IsWithin after (drawn_graph v more)
  unfolding apply drawn_graph
  more_into = record { points = λ p m. m; marks = λ m n. mark_into m (of_marks m (mark low high c.0) (drawn_graph v h).marks n); pins = λ p m. m }

  right_here : IsLabelled v more d
  right_here = record {
    some = λ e. some_there c.0 (more d) (curve_in_more c.0 (inl refl));
    ascend = subst (IsAscending nat_cmp) (sym here) (IsAscending-place nat_cmp nat_cmp_total c.0 (h d) (a.ascend d));
    backward = λ e. clash f.1 e;
  }

  right : AreCurvesOf v more
  right = curves_by v more
      (λ x o. elim (cases_dart x d) [
        | inl q ↦ subst (IsLabelled v more) (sym q) right_here
        | inr ne ↦ label_moves v v h more x (unchanged_way v x o) (elsewhere x ne) (labelled v h x a o)
      ])
      (λ x none. elsewhere x (λ q. none (subst (HasDart v) (sym q) f.0)) ∙ a.without_dart x none)

  pub curve_added : IsApplied v h (AddCurve d c)
  curve_added = applied v h (AddCurve d c) right more_from more_into
