-- Edits of an arrangement that are done, and edits that are not.
use Rattle.std.proofs.Common.{◌≡◌, ℕ, subst, Result, Ok, Err, inl, inr}
use Rattle.std.specs.Prelude.{IfOk, OnOk, OnErr}
use Rattle.edit_steps.specs.Edits.{Edit, steps}
use Rattle.edit_steps.specs.Layer.{layer_after}
use Rattle.slab_laws.specs.declared.names.CurveId.{CurveId}
use Rattle.curve_history.specs.Past.{curves_on, SameLayer, SameCurves}
use Rattle.told_steps.specs.RecordLayers.{IsLayer, IsRunOfSteps}
use Rattle.told_steps.specs.LayerSteps.{NamesStay}
use Rattle.told_steps.proofs.Edits.{edits_grow_or_shrink}
use Rattle.told_steps.proofs.Names.{grown_names_stay, shrunk_names_stay}
use Rattle.observer_bus.specs.Calls.{begun}
use Rattle.told_steps.specs.ToldRuns.{IsToldRun}
use Rattle.told_steps.proofs.ToldTogether.{told_runs_lawful}
use Rattle.arrangement.specs.Arranged.{Arranged, layer_in, map_in}
use Rattle.arrangement.specs.Edited.{IsEdited, IsAsBefore}
use Rattle.arrangement.proofs.Layers.{unchanged}

module _ (old new : Arranged) where
  abbrev Is : Edit → Type 0
  Is e = layer_in new ≡ layer_after e (layer_in old)

  abbrev IsTold : Edit → Type 0
  IsTold e = IsToldRun (map_in old) (curves_on old.past) (begun old.bus) (steps e (layer_in old).present) (map_in new) (curves_on new.past) new.bus

  names_stay : (e : Edit) → IsLayer old.graph old.past → IsRunOfSteps old.graph (curves_on old.past) (steps e (layer_in old).present) new.graph (curves_on new.past) → NamesStay old.graph new.graph (curves_on old.past) (curves_on new.past)
  names_stay e l m =
      elim (edits_grow_or_shrink e (layer_in old).present) [
        | inl g ↦ grown_names_stay old.graph (curves_on old.past) (steps e (layer_in old).present) new.graph (curves_on new.past) l.sound l.curves m g
        | inr g ↦ shrunk_names_stay old.graph (curves_on old.past) (steps e (layer_in old).present) new.graph (curves_on new.past) l.sound l.curves m g
      ]

  pub edited_so : (e : Edit) → IsLayer old.graph old.past → Is e → IsTold e → IsEdited old new e
  edited_so e l after told = record {
    layer = after;
    told = told;
    names = names_stay e l (told_runs_lawful.steps (map_in old) (curves_on old.past) (begun old.bus) (steps e (layer_in old).present) (map_in new) (curves_on new.past) new.bus told);
  }

  pub edited : {T E : Type 0} (r : Result T E) (e : Edit) → IsLayer old.graph old.past → OnOk r (Is e) → OnOk r (IsTold e) → OnOk r (IsEdited old new e)
  edited (Ok c) e l after told = edited_so e l after told
  edited (Err x) e l after told = tt

  -- the edit is told of the number that is answered
  pub edited_by : {E : Type 0} (r : Result CurveId E) (n : ℕ) (e : ℕ → Edit) → IsLayer old.graph old.past → IfOk r (λ c. c.0 ≡ n) → IfOk r (λ c. Is (e c.0)) → IfOk r (λ c. IsTold (e c.0)) → OnOk r (IsEdited old new (e n))
  edited_by (Ok c) n e l is after told = edited_so (e n) l (subst (λ k. Is (e k)) is after) (subst (λ k. IsTold (e k)) is told)
  edited_by (Err x) n e l is after told = tt

  pub as_before : {T E : Type 0} (r : Result T E) → OnErr r (new.graph ≡ old.graph) → OnErr r (new.faces ≡ old.faces) → OnErr r (SameLayer old.past new.past) → OnErr r (SameCurves old.past new.past) → OnErr r (new.bus ≡ old.bus) → OnErr r (IsAsBefore old new)
  as_before (Ok c) e f l s b = tt
  as_before (Err x) e f l s b = record { layer = unchanged old.graph old.past new.graph new.past e l s; graph = e; faces = f; curves = s; bus = b }
