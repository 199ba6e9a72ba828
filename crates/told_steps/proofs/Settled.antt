-- What was told stays told where the records only get back the lists of what moved.
use Rattle.std.proofs.Common.{◌≡◌, List, sym, subst}
use Rattle.edit_steps.specs.Steps.{Step}
use Rattle.arr_notes.specs.Curves.{Curves}
use Rattle.arr_notes.specs.MapView.{MapView}
use Rattle.observer_bus.specs.Rounds.{BusRow}
use Rattle.told_steps.specs.ToldRuns.{AreInStep, IsToldRun}

pub told_then : (m : MapView) (h : Curves) (b : BusRow) (ss : List Step) (w x : MapView) (k : Curves) (c : BusRow) → x ≡ w → IsToldRun m h b ss w k c → IsToldRun m h b ss x k c
told_then m h b ss w x k c same t = subst (λ z. IsToldRun m h b ss z k c) (sym same) t

pub in_step_then : (w x : MapView) (k : Curves) (c : BusRow) → x ≡ w → AreInStep w k c → AreInStep x k c
in_step_then w x k c same t = subst (λ z. AreInStep z k c) (sym same) t
