use Rattle.std.proofs.Common.{◌≡◌, take}
use Rattle.mirror_observer.proofs.curves.copied.Given as goal

abbrev pub invariant-loop-curve : goal.invariant-loop-curve
invariant-loop-curve l = l.copy ≡ take l.curve-index l.curves
