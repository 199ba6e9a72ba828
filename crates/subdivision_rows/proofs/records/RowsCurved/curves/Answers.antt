use Rattle.subdivision_rows.proofs.Items.{place}
use Rattle.subdivision_rows.proofs.DartLists.{dart_within, edge_within}
use Rattle.subdivision_rows.proofs.CurveLists.{curves_increase, curves_turned, curves_read}
use Rattle.subdivision_rows.proofs.records.RowsCurved.curves.Goals as goal

pub index-requires : goal.index-requires
index-requires c = place c.self.inside.lists.darts c.args.d.0 (dart_within c.self.inside.lists c.args.self.now c.self.invariant c.self.view_is c.args.d c.requires)

pub index-edge-requires : goal.index-edge-requires
index-edge-requires c = place c.self.inside.lists.edges c.index.result.now.edge (edge_within c.self.inside.lists c.args.self.now c.self.invariant c.self.view_is c.args.d c.index.result.now c.requires c.index.ensures)

pub returns-in_err-curves-clause-ascend : goal.returns-in_err-curves-clause-ascend
returns-in_err-curves-clause-ascend c = curves_increase c.args.self.now c.args.d

pub returns-in_err-curves-clause-twins : goal.returns-in_err-curves-clause-twins
returns-in_err-curves-clause-twins c = curves_turned c.self.inside.lists c.args.self.now c.self.invariant c.self.view_is c.args.d c.requires

pub returns-clause-curves : goal.returns-clause-curves
returns-clause-curves c =
    curves_read c.self.inside.lists c.args.self.now c.self.invariant c.self.view_is c.args.d c.index.result.now c.index-edge.result.now c.lower.result c.upper.result c.deref.result.now c.in_ok-curves.curves.items c.requires c.index.ensures c.index-edge.ensures c.lower.ensures.value c.upper.ensures c.deref.ensures.value c.in_ok-curves.ensures

pub returns-clause-ascend : goal.returns-clause-ascend
returns-clause-ascend c = curves_increase c.args.self.now c.args.d

pub returns-clause-twins : goal.returns-clause-twins
returns-clause-twins c = curves_turned c.self.inside.lists c.args.self.now c.self.invariant c.self.view_is c.args.d c.requires
