use Rattle.std.proofs.Common.{◌≡◌, map, take}
use Rattle.record_orders.specs.Keys.{dart_key}
use Rattle.record_orders.proofs.darts.keys_of.Given as goal

abbrev pub invariant-loop-name : goal.invariant-loop-name
invariant-loop-name g l = l.keys.items ≡ map (dart_key (g.R.Darts.graph l.records)) (take l.name-index l.names)
