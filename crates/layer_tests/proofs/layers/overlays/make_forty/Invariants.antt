use Rattle.arrangement.specs.Arranged.{arranged, IsWatched}
use Rattle.layer_tests.proofs.layers.overlays.make_forty.Given as goal

abbrev pub invariant-lines : goal.invariant-lines
invariant-lines g l = IsWatched (arranged (goal.Observer-dyn g) l.layer)
