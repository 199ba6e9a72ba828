-- Told steps, with the sides of curves told apart, that go on.
use Rattle.std.proofs.Common.{◌≡◌, List, [], ◌++◌, refl, subst}
use Rattle.edit_steps.specs.Steps.{Step}
use Rattle.arr_notes.specs.MapView.{MapView}
use Rattle.curve_history.specs.Past.{Past, curves_on}
use Rattle.observer_bus.specs.Rounds.{BusRow}
use Rattle.told_steps.specs.SidedRuns.{IsSidedRun}
use Rattle.told_steps.specs.StrandRuns.{IsStrandRun}
use Rattle.told_steps.specs.ToldRuns.{IsToldRun}
use Rattle.told_steps.proofs.Begun.{none_told}
use Rattle.told_steps.proofs.StrandRuns.{strands_stay, strands_then}
use Rattle.told_steps.proofs.ToldTogether.{told_runs_lawful}

pub sided : {m : MapView} {p : Past} {b : BusRow} {ss : List Step} {w : MapView} {q : Past} {c : BusRow} → IsToldRun m (curves_on p) b ss w (curves_on q) c → IsStrandRun m.graph p ss w.graph q → IsSidedRun m p b ss w q c
sided t r = record { told = t; strands = r }

pub none_sided : (m : MapView) (p : Past) (b : BusRow) → IsSidedRun m p b [] m p b
none_sided m p b = record { told = none_told m (curves_on p) b; strands = strands_stay m.graph m.graph p p refl (λ d. refl) }

module _ (m : MapView) (p : Past) (b : BusRow) (ss ts : List Step) (w : MapView) (q : Past) (c : BusRow) (r : IsSidedRun m p b ss w q c) where
  pub sided_then : (x : MapView) (o : Past) (d : BusRow) → IsSidedRun w q c ts x o d → IsSidedRun m p b (ss ++ ts) x o d
  sided_then x o d t = record {
    told = told_runs_lawful.follow m (curves_on p) b ss ts w (curves_on q) c x (curves_on o) d r.told t.told;
    strands = strands_then m.graph p ss ts w.graph q x.graph o r.strands t.strands;
  }

  pub sided_as : ss ≡ ts → IsSidedRun m p b ts w q c
  sided_as e = subst (λ us. IsSidedRun m p b us w q c) e r
