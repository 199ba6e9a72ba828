use Rattle.std.proofs.Common.{◌∙◌}
use Rattle.dcel_records.proofs.ListsRead.{bare_key, bare_place, next_bare_read}
use Rattle.dcel_records.proofs.listing.RecordsFaceLists.isolated_after_in_face.Goals as goal

pub index-requires : goal.index-requires
index-requires c = bare_key c.self.inside _ c.self.view_is c.self.invariant.faces c.args.v c.requires

pub place-requires : goal.place-requires
place-requires c = bare_place c.self.inside _ c.self.view_is c.self.invariant.faces c.args.v c.index.result.now c.requires c.index.ensures

pub returns : goal.returns
returns c = c.vertex_named.ensures ∙ next_bare_read c.self.inside _ c.self.view_is c.self.invariant.faces c.args.v c.index.result.now c.place.result c.index.ensures c.place.ensures
