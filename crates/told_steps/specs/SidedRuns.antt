-- Told steps that are also the steps where the sides of curves are told apart.
use Rattle.std.specs.Prelude.{List}
use Rattle.edit_steps.specs.Steps.{Step}
use Rattle.arr_notes.specs.MapView.{MapView}
use Rattle.curve_history.specs.Past.{Past, curves_on}
use Rattle.observer_bus.specs.Rounds.{BusRow}
use Rattle.told_steps.specs.StrandRuns.{IsStrandRun}
use Rattle.told_steps.specs.ToldRuns.{IsToldRun}

-- just these steps, each told before and after it, make of the first records, history and bus the second, and so they do where the sides of curves are told apart (this project)
pub record IsSidedRun (m : MapView) (p : Past) (b : BusRow) (ss : List Step) (w : MapView) (q : Past) (c : BusRow) : Type 0 where
  pub told : IsToldRun m (curves_on p) b ss w (curves_on q) c
  pub strands : IsStrandRun m.graph p ss w.graph q
