use Rattle.dcel_records.proofs.CyclesWritten.{cycle_key}
use Rattle.dcel_records.proofs.OnCycles.{area_covers}
use Rattle.dcel_records.proofs.records.Records.area.Goals as goal

pub index-requires : goal.index-requires
index-requires c = cycle_key c.self.inside _ c.self.view_is c.self.invariant.faces c.args.c c.requires

pub returns : goal.returns
returns c = area_covers c.self.inside _ c.self.view_is c.self.invariant.on_cycles c.self.invariant.marked c.args.c _ c.index.ensures
