use Rattle.arrangement.specs.Arranged.{arranged, IsWatched}
use Rattle.record_tests.proofs.records.vertical.draw_case.Given as goal

abbrev pub invariant-segments : goal.invariant-segments
invariant-segments g l = IsWatched (arranged (goal.Observer-dyn g) l.layer)
