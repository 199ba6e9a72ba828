use Rattle.slab_laws.specs.View.{IsOutOf, source_in}
use Rattle.rotation_order.proofs.Circuits.{left}
use Rattle.rotation_order.proofs.Searches.{NoneTo}
use Rattle.rotation_order.proofs.neighbours.dart_to.Given as goal

abbrev pub invariant-ring : goal.invariant-ring
invariant-ring g l =
    let v = g.R.Darts.graph l.records in
    record {
      out : IsOutOf v (source_in v l.first) l.dart;
      passed : NoneTo v l.first l.to l.dart;
    }

abbrev pub decreases-ring : goal.decreases-ring
decreases-ring g l = left (g.R.Darts.graph l.records) l.first l.dart
