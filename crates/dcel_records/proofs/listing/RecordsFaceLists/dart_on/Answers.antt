use Rattle.dcel_records.proofs.CyclesWritten.{cycle_key}
use Rattle.dcel_records.proofs.ListsRead.{dart_read}
use Rattle.dcel_records.proofs.listing.RecordsFaceLists.dart_on.Goals as goal

pub index-requires : goal.index-requires
index-requires c = cycle_key c.self.inside _ c.self.view_is c.self.invariant.faces c.args.cycle c.requires

pub returns : goal.returns
returns c = dart_read c.self.inside _ c.self.view_is c.self.invariant.faces c.args.cycle c.index.result.now c.index.ensures
