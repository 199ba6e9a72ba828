use Rattle.std.proofs.Common.{◌≡◌, take}
use Rattle.record_orders.specs.CycleKeys.{cycle_keys}
use Rattle.record_orders.proofs.BodiesGrown.{AreSeen}
use Rattle.record_orders.proofs.cycles.cycles_of.Given as goal

abbrev pub invariant-loop-dart : goal.invariant-loop-dart
invariant-loop-dart g l = record {
  seen : AreSeen (g.R.Faced.faces l.records) l.seen.items (take l.dart-index l.darts);
  cycles : l.cycles.items ≡ cycle_keys (g.R.Faced.faces l.records) (take l.dart-index l.darts);
}
