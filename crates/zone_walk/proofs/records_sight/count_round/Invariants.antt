use Rattle.std.proofs.Common.{◌≡◌, ◌+◌}
use Rattle.slab_laws.specs.View.{IsOutOf, source_in}
use Rattle.rotation_order.proofs.Circuits.{left}
use Rattle.zone_walk.specs.Sights.{degree}
use Rattle.zone_walk.proofs.records_sight.count_round.Given as goal

abbrev pub invariant-ring : goal.invariant-ring
invariant-ring g l =
    let v = l.records.graph in
    record {
      out : IsOutOf v (source_in v l.first) l.dart;
      count : l.steps + left v l.first l.dart ≡ l.fn.steps + degree v (source_in v l.first);
    }

abbrev pub decreases-ring : goal.decreases-ring
decreases-ring g l = left l.records.graph l.first l.dart
