use Rattle.std.proofs.Common.{◌∙◌}
use Rattle.subdivision_rows.proofs.DartLists.{dart_within, edge_within, line_reads, stands}
use Rattle.subdivision_rows.proofs.Items.{place}
use Rattle.subdivision_rows.proofs.records.RowsDarts.line.Goals as goal

pub index-requires : goal.index-requires
index-requires c = place c.self.inside.lists.darts c.args.d.0 (dart_within c.self.inside.lists c.args.self.now c.self.invariant c.self.view_is c.args.d c.requires)

pub index-requires-2 : goal.index-requires-2
index-requires-2 c = place c.self.inside.lists.edges c.index.result.now.edge (edge_within c.self.inside.lists c.args.self.now c.self.invariant c.self.view_is c.args.d c.index.result.now c.requires c.index.ensures)

pub returns-clause-line : goal.returns-clause-line
returns-clause-line c = c.line.ensures ∙ line_reads c.self.inside.lists c.args.self.now c.self.invariant c.self.view_is c.args.d c.index.result.now c.index-2.result.now c.requires c.index.ensures c.index-2.ensures

pub returns-clause-twins : goal.returns-clause-twins
returns-clause-twins c = (stands c.self.inside.lists c.args.self.now c.self.invariant c.self.view_is).graph.twinned.line c.args.d c.requires
