use Rattle.arrangement.specs.Arranged.{arranged, IsWatched}
use Rattle.record_tests.proofs.records.vertical.pin_case.Given as goal

abbrev pub invariant-pins : goal.invariant-pins
invariant-pins g l = IsWatched (arranged (goal.Observer-dyn g) l.layer)
