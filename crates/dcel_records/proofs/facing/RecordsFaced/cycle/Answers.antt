use Rattle.std.proofs.Common.{ap}
use Rattle.slab_laws.specs.View.{cycle_or}
use Rattle.dcel_records.proofs.Holding.{graph_seen, dart_key}
use Rattle.dcel_records.proofs.CycleColumn.{cycle_read}
use Rattle.dcel_records.proofs.OnCycles.{row_cycle_has}
use Rattle.dcel_records.proofs.facing.RecordsFaced.cycle.Goals as goal

pub index-requires : goal.index-requires
index-requires c = dart_key c.self.inside.vertices c.self.inside.darts _ (graph_seen c.self.inside _ c.self.view_is) c.args.d c.requires

pub returns-clause-cycle : goal.returns-clause-cycle
returns-clause-cycle c = ap cycle_or (cycle_read c.self.inside _ c.self.view_is c.args.d _ c.index.ensures)

pub returns-clause-has : goal.returns-clause-has
returns-clause-has c = row_cycle_has c.self.inside _ c.self.view_is c.self.invariant.on_cycles c.args.d _ c.index.ensures
