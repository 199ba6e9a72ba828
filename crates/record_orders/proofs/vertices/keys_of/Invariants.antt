use Rattle.std.proofs.Common.{◌≡◌, map, take}
use Rattle.record_orders.specs.Keys.{vertex_key}
use Rattle.record_orders.proofs.vertices.keys_of.Given as goal

abbrev pub invariant-loop-name : goal.invariant-loop-name
invariant-loop-name g l = l.keys.items ≡ map (vertex_key (g.R.Darts.graph l.records)) (take l.name-index l.names)
