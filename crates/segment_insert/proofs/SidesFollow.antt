-- Where sides of curves are told apart, records and history come by the same changes: so it shows which sides run along each edge.
use Rattle.std.proofs.Common.{◌≡◌, [], ◌∷◌, sym, ap, ◌∙◌, subst, inl, inr}
use Rattle.std.specs.Prelude.{⊤}
use Rattle.std.proofs.lemmas.Bool.{cases_Bool}
use Rattle.plane_graphs.specs.Graph.{Graph, curves}
use Rattle.edit_steps.specs.Steps.{Step, MergeEdge as MergeEdgeAt, RemoveCurve as RemoveCurveAt, apply, run}
use Rattle.slab_laws.specs.declared.names.DartId.{DartId}
use Rattle.slab_laws.specs.Sound.{IsGraphSound}
use Rattle.slab_laws.specs.View.{View, point_in, source_in, target_in}
use Rattle.arr_notes.specs.declared.change.Change.{Change}
use Rattle.arr_notes.specs.declared.change.Change.TheVariants.{AddVertex, RemoveVertex, SplitEdge, MergeEdge, AddEdge, RemoveEdge, AddCurve, RemoveCurve, SetPin, ClearPin, Clear}
use Rattle.arr_notes.specs.Curves.{Curves, AreCurvesOf, is_forward, step_curves}
use Rattle.arr_notes.specs.RecordGraph.{drawn_graph}
use Rattle.arr_notes.specs.Step.{step}
use Rattle.sound_views.proofs.DartCurves.{curves_of_darts}
use Rattle.sound_changes.specs.StepOfChange.{FitsChange, step_of_change}
use Rattle.sound_changes.proofs.ChangesAreSteps.{changes_are_steps}
use Rattle.sound_changes.proofs.StepCases.{has_or_not}
use Rattle.curve_history.specs.Past.{Past, curves_on, strands_on}
use Rattle.curve_history.proofs.Sides.{strands_of_edges}
use Rattle.told_steps.specs.RecordLayers.{IsRunOfSteps}
use Rattle.told_steps.specs.StrandRuns.{IsStrandRun, strand_graph}
use Rattle.told_steps.proofs.Runs.{made_is_run}

-- edges of which the same is drawn have the same curves
one_drawn : (v : View) (h k : Curves) → IsGraphSound v → AreCurvesOf v h → AreCurvesOf v k → drawn_graph v k ≡ drawn_graph v h → (d : DartId) → k d ≡ h d
one_drawn v h k s a b e d = elim (has_or_not v d) [
  | inl o ↦ elim (cases_Bool (is_forward v d)) [
    | inl f ↦ sym (curves_of_darts v k d s b (o, f)) ∙ ap (λ (g : Graph). curves g (point_in v (source_in v d)) (point_in v (target_in v d))) e ∙ curves_of_darts v h d s a (o, f)
    | inr f ↦ b.backward d f ∙ sym (a.backward d f)
  ]
  | inr n ↦ b.without_dart d n ∙ sym (a.without_dart d n)
]

-- a step that asks nothing of curves
abbrev pub IsBlind : Step → Type 0
IsBlind (MergeEdgeAt p) = ⊥
IsBlind (RemoveCurveAt p q c) = ⊥
IsBlind other = ⊤

fits_any : (v : View) (h k : Curves) (c : Change) → IsBlind (step_of_change v c) → FitsChange v h c → FitsChange v k c
fits_any v h k (AddVertex w p face) b f = f
fits_any v h k (RemoveVertex w) b f = f
fits_any v h k (SplitEdge d w p n m) b f = f
fits_any v h k (MergeEdge w d n) b f = absurd b
fits_any v h k (AddEdge d m u w at_u at_w l c faces) b f = f
fits_any v h k (RemoveEdge d m faces) b f = f
fits_any v h k (AddCurve d c) b f = f
fits_any v h k (RemoveCurve d c) b f = absurd b
fits_any v h k (SetPin w) b f = f
fits_any v h k (ClearPin w) b f = f
fits_any v h k (Clear face) b f = f

module _ (v : View) (p : Past) (w : View) (q : Past) (s : IsGraphSound v) (a : AreCurvesOf v (curves_on p)) where
  pub none_apart : IsRunOfSteps v (curves_on p) [] w (curves_on q) → IsStrandRun v p [] w q → IsRunOfSteps v (strands_on p) [] w (strands_on q)
  unfolding run
  none_apart m r =
      let there = made_is_run v (curves_on p) [] w (curves_on q) s a m in
      let e : w ≡ v = m.0 in
      (m.0, one_drawn w (strands_on p) (strands_on q) there.sound (subst (λ z. AreCurvesOf z (strands_on p)) (sym e) (strands_of_edges v p a)) (strands_of_edges w q there.curves) (r ∙ ap (λ z. strand_graph z p) (sym e)))

  pub one_apart : (t : Step) → IsBlind t → IsRunOfSteps v (curves_on p) (t ∷ []) w (curves_on q) → IsStrandRun v p (t ∷ []) w q → IsRunOfSteps v (strands_on p) (t ∷ []) w (strands_on q)
  unfolding run
  one_apart t blind m r =
      let c = m.0 in
      let there = made_is_run v (curves_on p) (t ∷ []) w (curves_on q) s a m in
      let e : w ≡ step v m.0 = m.2.0 in
      let f = fits_any v (curves_on p) (strands_on p) c (subst IsBlind (sym m.1.tells) blind) m.1.fits in
      let i = changes_are_steps v (strands_on p) c s (strands_of_edges v p a) f in
      let same = one_drawn w (step_curves (strands_on p) c) (strands_on q) there.sound (subst (λ z. AreCurvesOf z (step_curves (strands_on p) c)) (sym e) i.curves) (strands_of_edges w q there.curves)
      (r ∙ ap (λ x. apply x (strand_graph v p)) (sym m.1.tells) ∙ sym i.graph ∙ ap (λ z. drawn_graph z (step_curves (strands_on p) c)) (sym e)) in
      (c, record { fits = f; tells = m.1.tells; sound = m.1.sound }, (e, same))
