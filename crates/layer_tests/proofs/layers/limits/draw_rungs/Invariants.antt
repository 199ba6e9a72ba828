use Rattle.arrangement.specs.Arranged.{arranged, IsWatched}
use Rattle.layer_tests.proofs.layers.limits.draw_rungs.Given as goal

abbrev pub invariant-rungs : goal.invariant-rungs
invariant-rungs g l = IsWatched (arranged (goal.Observer-dyn g) l.layer)
