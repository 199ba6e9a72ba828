use Rattle.subdivision_rows.proofs.Items.{place}
use Rattle.subdivision_rows.proofs.CycleLists.{kind_within, kind_reads}
use Rattle.subdivision_rows.proofs.records.RowsFaced.kind.Goals as goal

pub index-requires : goal.index-requires
index-requires c = place c.self.inside.lists.kinds c.args.c.0 (kind_within c.self.inside.lists c.args.self.now c.self.invariant c.self.view_is c.args.c c.requires)

pub returns : goal.returns
returns c = kind_reads c.self.inside.lists c.args.self.now c.self.invariant c.self.view_is c.args.c c.index.result.now c.requires c.index.ensures
