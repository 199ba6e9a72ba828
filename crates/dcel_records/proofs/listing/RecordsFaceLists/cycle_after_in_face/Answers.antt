use Rattle.std.proofs.Common.{◌∙◌}
use Rattle.dcel_records.proofs.CyclesWritten.{cycle_key}
use Rattle.dcel_records.proofs.ListsRead.{next_cycle_read}
use Rattle.dcel_records.proofs.listing.RecordsFaceLists.cycle_after_in_face.Goals as goal

pub index-requires : goal.index-requires
index-requires c = cycle_key c.self.inside _ c.self.view_is c.self.invariant.faces c.args.cycle c.requires

pub returns : goal.returns
returns c = c.cycle_named.ensures ∙ next_cycle_read c.self.inside _ c.self.view_is c.self.invariant.faces c.args.cycle c.index.result.now c.index.ensures
