use Rattle.arrangement.specs.Arranged.{arranged, IsWatched}
use Rattle.layer_tests.proofs.layers.regions.draw.Given as goal

abbrev pub invariant-sides : goal.invariant-sides
invariant-sides g l = IsWatched (arranged (goal.Observer-dyn g) l.layer)
