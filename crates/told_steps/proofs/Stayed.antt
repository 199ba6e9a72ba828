-- What tidying one vertex leaves to the others: their records.
use Rattle.std.proofs.Common.{◌≡◌, ◌||◌, [], ◌∷◌, refl, sym, subst, inl, inr}
use Rattle.std.specs.List.{list_any}
use Rattle.exact_plane.specs.Point.{Point}
use Rattle.plane_graphs.specs.Ascending.{Member}
use Rattle.plane_graphs.specs.Graph.{Graph}
use Rattle.plane_graphs.specs.Line.{same_point}
use Rattle.plane_graphs.proofs.Lists.{in_filter, not_in}
use Rattle.plane_graphs.proofs.Order.{same_out}
use Rattle.edit_steps.specs.Steps.{MergeEdge, RemoveVertex, apply, points_without, run, tidy_step}
use Rattle.slab_laws.specs.declared.names.VertexId.{VertexId}
use Rattle.slab_laws.specs.View.{HasVertex, point_in}
use Rattle.arr_notes.specs.MapView.{MapView}
use Rattle.arr_notes.specs.RecordGraph.{drawn_graph}
use Rattle.curve_history.specs.Past.{Past, curves_on}
use Rattle.observer_bus.specs.Rounds.{BusRow}
use Rattle.sound_changes.proofs.StepHolds.{point_held}
use Rattle.told_steps.specs.LayerSteps.{Shrinks}
use Rattle.told_steps.proofs.Names.{shrunk_names_stay}
use Rattle.told_steps.proofs.Runs.{made_is_run}
use Rattle.told_steps.proofs.Stays.{IsSamePlace}
use Rattle.told_steps.proofs.Edits.{one_of}
use Rattle.told_steps.proofs.ToldTogether.{told_runs_lawful}
use Rattle.told_steps.specs.ToldRuns.{AreInStep}
use Rattle.told_steps.specs.Tidied.{IsTidied}

step_shrinks : (r : Point) (g : Graph) → Shrinks (tidy_step r g)
unfolding tidy_step
step_shrinks r g = one_of Shrinks (list_any (λ m. same_point m.low r || same_point m.high r) g.marks) (MergeEdge r) (RemoveVertex r) tt tt

others_stay : (r x : Point) (g : Graph) → Member x g.points → (x ≡ r → ⊥) → Member x (apply (tidy_step r g) g).points
unfolding apply tidy_step
others_stay r x g m other =
    let k : Member x (points_without r g.points) = in_filter _ x g.points m (not_in (same_point x r) (λ e. other (same_out x r e))) in
    one_of (λ s. Member x (apply s g).points) (list_any (λ m. same_point m.low r || same_point m.high r) g.marks) (MergeEdge r) (RemoveVertex r) k k

module _ (v : MapView) (h : Past) (b : BusRow) (i : AreInStep v (curves_on h) b) (r : Point) (w : MapView) (k : Past) (c : BusRow) (t : IsTidied v h b r w k c) where
  abbrev g : Graph
  g = drawn_graph v.graph (curves_on h)

  pub tidied_in_step : AreInStep w (curves_on k) c
  tidied_in_step = elim t [
    | inl e ↦ told_runs_lawful.in_step v (curves_on h) b (tidy_step r g ∷ []) w (curves_on k) c e.1.told i
    | inr e ↦ told_runs_lawful.in_step v (curves_on h) b [] w (curves_on k) c e.1.told i
  ]

  -- a vertex at another point
  pub other_stays : (u : VertexId) → HasVertex v.graph u → (point_in v.graph u ≡ r → ⊥) → IsSamePlace v.graph w.graph u
  unfolding run
  other_stays u has other = elim t [
    | inl e ↦
        let made = told_runs_lawful.steps v (curves_on h) b (tidy_step r g ∷ []) w (curves_on k) c e.1.told in
        let m = subst (λ z. Member (point_in v.graph u) z.points) (sym (made_is_run v.graph (curves_on h) (tidy_step r g ∷ []) w.graph (curves_on k) i.sound.graph i.curves made).graph) (others_stay r (point_in v.graph u) g (point_held v.graph i.sound.graph.named (curves_on h) u has) other) in
        let n = (shrunk_names_stay v.graph (curves_on h) (tidy_step r g ∷ []) w.graph (curves_on k) i.sound.graph i.curves made (step_shrinks r g, tt)).vertex u has m in
        record { has = n.0; point = n.1 }
    | inr e ↦ subst (λ z. IsSamePlace v.graph z u) (sym (told_runs_lawful.steps v (curves_on h) b [] w (curves_on k) c e.1.told).0) (record { has = has; point = refl })
  ]
