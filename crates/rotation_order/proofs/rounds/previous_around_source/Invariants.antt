use Rattle.slab_laws.specs.View.{IsOutOf, source_in}
use Rattle.arr_notes.specs.AfterAround.{after_in}
use Rattle.rotation_order.proofs.Circuits.{left}
use Rattle.rotation_order.proofs.rounds.previous_around_source.Given as goal

abbrev pub invariant-ring : goal.invariant-ring
invariant-ring g l = let v = g.R.Darts.graph l.records in IsOutOf v (source_in v l.d) l.dart

abbrev pub decreases-ring : goal.decreases-ring
decreases-ring g l = let v = g.R.Darts.graph l.records in left v l.d (after_in v l.dart)
