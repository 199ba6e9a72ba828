use Rattle.std.proofs.Common.{◌∙◌}
use Rattle.dcel_records.proofs.Relinked.{face_key}
use Rattle.dcel_records.proofs.ListsRead.{first_bare_read}
use Rattle.dcel_records.proofs.listing.RecordsFaceLists.first_isolated_in.Goals as goal

pub index-requires : goal.index-requires
index-requires c = face_key c.self.inside _ c.self.view_is c.args.face c.requires

pub returns : goal.returns
returns c = c.vertex_named.ensures ∙ first_bare_read c.self.inside _ c.self.view_is c.self.invariant.faces c.args.face c.index.result.now c.index.ensures
