use Rattle.arrangement.specs.Arranged.{arranged, IsWatched}
use Rattle.layer_tests.proofs.layers.calls.all_right.Given as goal

abbrev pub invariant-calls : goal.invariant-calls
invariant-calls g l = IsWatched (arranged (goal.Observer-dyn g) l.layer)
