-- What an edit makes of an arrangement, and what a refusal leaves.
use Rattle.std.specs.Prelude.{◌≡◌}
use Rattle.edit_steps.specs.Edits.{Edit, steps}
use Rattle.edit_steps.specs.Layer.{layer_after}
use Rattle.curve_history.specs.Past.{curves_on, SameCurves}
use Rattle.told_steps.specs.LayerSteps.{NamesStay}
use Rattle.observer_bus.specs.Calls.{begun}
use Rattle.told_steps.specs.ToldRuns.{IsToldRun}
use Rattle.arrangement.specs.Arranged.{Arranged, layer_in, map_in}

-- the arrangement after an edit: it is the layer after it, made by just its steps, each told to the observers before and after it, and what is there before and after keeps its names (CGAL manual, `Arrangement_with_history_2` and `Arr_observer`)
pub record IsEdited (old new : Arranged) (e : Edit) : Type 0 where
  pub layer : layer_in new ≡ layer_after e (layer_in old)
  pub told : IsToldRun (map_in old) (curves_on old.past) (begun old.bus) (steps e (layer_in old).present) (map_in new) (curves_on new.past) new.bus
  pub names : NamesStay old.graph new.graph (curves_on old.past) (curves_on new.past)

-- all is as before but spare room (this project)
pub record IsAsBefore (old new : Arranged) : Type 0 where
  pub layer : layer_in new ≡ layer_in old
  pub graph : new.graph ≡ old.graph
  pub faces : new.faces ≡ old.faces
  pub curves : SameCurves old.past new.past
  pub bus : new.bus ≡ old.bus

-- the observers may be other ones; all else is as before
pub record IsSameLayer (old new : Arranged) : Type 0 where
  pub graph : new.graph ≡ old.graph
  pub faces : new.faces ≡ old.faces
  pub past : new.past ≡ old.past
  pub limits : new.limits ≡ old.limits
