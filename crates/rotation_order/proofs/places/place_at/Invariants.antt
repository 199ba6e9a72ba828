use Rattle.std.proofs.Common.{◌≡◌}
use Rattle.slab_laws.specs.View.{IsOutOf}
use Rattle.rotation_order.specs.Place.{direction_in}
use Rattle.rotation_order.proofs.Walks.{to_meet}
use Rattle.rotation_order.proofs.places.place_at.Given as goal

abbrev pub invariant-ring : goal.invariant-ring
invariant-ring g l =
    let v = g.R.Darts.graph l.records in
    record {
      out : IsOutOf v l.fn.vertex l.dart;
      way : l.way_out ≡ direction_in v l.dart;
    }

abbrev pub decreases-ring : goal.decreases-ring
decreases-ring g l = to_meet (g.R.Darts.graph l.records) l.fn.vertex l.direction l.dart
