use Rattle.arrangement.specs.Arranged.{arranged, IsWatched}
use Rattle.layer_tests.proofs.layers.looks.draw_fence.Given as goal

abbrev pub invariant-posts : goal.invariant-posts
invariant-posts g l = IsWatched (arranged (goal.Observer-dyn g) l.layer)
