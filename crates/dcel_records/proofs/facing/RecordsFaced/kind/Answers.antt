use Rattle.std.proofs.Common.{ap}
use Rattle.slab_laws.specs.View.{kind_or}
use Rattle.dcel_records.proofs.CyclesWritten.{cycle_key}
use Rattle.dcel_records.proofs.ListsRead.{cycle_row_read}
use Rattle.dcel_records.proofs.facing.RecordsFaced.kind.Goals as goal

pub index-requires : goal.index-requires
index-requires c = cycle_key c.self.inside _ c.self.view_is c.self.invariant.faces c.args.c c.requires

pub returns : goal.returns
returns c = ap kind_or (cycle_row_read c.self.inside _ c.self.view_is c.self.invariant.faces c.args.c c.index.result.now c.index.ensures)
