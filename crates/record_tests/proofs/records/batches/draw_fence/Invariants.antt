use Rattle.arrangement.specs.Arranged.{arranged, IsWatched}
use Rattle.record_tests.proofs.records.batches.draw_fence.Given as goal

abbrev pub invariant-posts : goal.invariant-posts
invariant-posts g l = IsWatched (arranged (goal.Observer-dyn g) l.layer)
