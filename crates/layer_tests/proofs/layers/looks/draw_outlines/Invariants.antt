use Rattle.arrangement.specs.Arranged.{arranged, IsWatched}
use Rattle.layer_tests.proofs.layers.looks.draw_outlines.Given as goal

abbrev pub invariant-outlines : goal.invariant-outlines
invariant-outlines g l = IsWatched (arranged (goal.Observer-dyn g) l.layer)
