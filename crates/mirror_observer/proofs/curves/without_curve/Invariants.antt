use Rattle.std.proofs.Common.{◌≡◌, ◌++◌, drop}
use Rattle.mirror_observer.specs.Tables.{numbers_in}
use Rattle.mirror_observer.specs.Lists.{left_from}
use Rattle.mirror_observer.proofs.curves.without_curve.Given as goal

abbrev pub invariant-loop-other : goal.invariant-loop-other
invariant-loop-other l = numbers_in l.left ++ left_from l.curve.0 (numbers_in (drop l.other-index l.curves)) ≡ left_from l.curve.0 (numbers_in l.curves)
