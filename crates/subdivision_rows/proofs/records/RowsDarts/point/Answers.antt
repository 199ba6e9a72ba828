use Rattle.subdivision_rows.proofs.VertexLists.{vertex_within, point_reads}
use Rattle.subdivision_rows.proofs.Items.{place}
use Rattle.subdivision_rows.proofs.records.RowsDarts.point.Goals as goal

pub index-requires : goal.index-requires
index-requires c = place c.self.inside.lists.points c.args.v.0 (vertex_within c.self.inside.lists c.args.self.now c.self.invariant c.self.view_is c.args.v c.requires)

pub returns : goal.returns
returns c = point_reads c.self.inside.lists c.args.self.now c.self.invariant c.self.view_is c.args.v c.index.result.now c.requires c.index.ensures
