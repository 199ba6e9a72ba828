use Rattle.subdivision_rows.proofs.DartLists.{dart_within, target_reads}
use Rattle.subdivision_rows.proofs.Items.{place}
use Rattle.subdivision_rows.proofs.records.RowsDarts.target.Goals as goal

pub index-requires : goal.index-requires
index-requires c = place c.self.inside.lists.darts c.args.d.0 (dart_within c.self.inside.lists c.args.self.now c.self.invariant c.self.view_is c.args.d c.requires)

pub returns : goal.returns
returns c = target_reads c.self.inside.lists c.args.self.now c.self.invariant c.self.view_is c.args.d c.index.result.now c.requires c.index.ensures
