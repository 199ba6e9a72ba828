use Rattle.subdivision_rows.proofs.VertexLists.{pin_within, pin_reads}
use Rattle.subdivision_rows.proofs.Items.{place}
use Rattle.subdivision_rows.proofs.records.RowsDarts.pinned.Goals as goal

pub index-requires : goal.index-requires
index-requires c = place c.self.inside.lists.pinned c.args.v.0 (pin_within c.self.inside.lists c.args.self.now c.self.invariant c.self.view_is c.args.v c.requires)

pub returns : goal.returns
returns c = pin_reads c.self.inside.lists c.args.self.now c.self.invariant c.self.view_is c.args.v c.index.result.now c.index.result.now c.requires c.index.ensures
