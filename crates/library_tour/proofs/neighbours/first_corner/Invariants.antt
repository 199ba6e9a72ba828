use Rattle.std.specs.List.{AllByRecursion}
use Rattle.slab_laws.specs.View.{HasDart}
use Rattle.arrangement.specs.Arranged.{arranged}
use Rattle.library_tour.proofs.neighbours.first_corner.Given as goal

-- the darts that are still to come have records
abbrev pub invariant-boundary : goal.invariant-boundary
invariant-boundary g l = AllByRecursion (HasDart (arranged (goal.Observer-dyn g) l.map).graph) l.dart-iterator
