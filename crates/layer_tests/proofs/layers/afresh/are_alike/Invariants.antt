use Rattle.arrangement.specs.Arranged.{arranged, IsWatched}
use Rattle.layer_tests.proofs.layers.afresh.are_alike.Given as goal

abbrev pub invariant-lines : goal.invariant-lines
invariant-lines g l = IsWatched (arranged (goal.Observer-dyn g) l.layer)
