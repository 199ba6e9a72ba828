use Rattle.arrangement.specs.Arranged.{arranged, IsWatched}
use Rattle.record_tests.proofs.records.envelopes.insert_all.Given as goal

abbrev pub invariant-segments : goal.invariant-segments
invariant-segments g l = IsWatched (arranged (goal.Observer-dyn g) l.layer)
