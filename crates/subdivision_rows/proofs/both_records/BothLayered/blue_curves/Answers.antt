use Rattle.subdivision_rows.proofs.OverlaidRows.{blue_ascends, blue_turned}
use Rattle.subdivision_rows.proofs.both_records.BothLayered.blue_curves.Goals as goal

pub returns-in_err-curves-clause-ascend : goal.returns-in_err-curves-clause-ascend
returns-in_err-curves-clause-ascend c = blue_ascends c.self.inside c.args.self.now c.self.invariant c.self.view_is c.args.d c.edge_of.result c.edge_of.ensures.place c.edge_of.ensures.below

pub returns-in_err-curves-clause-twins : goal.returns-in_err-curves-clause-twins
returns-in_err-curves-clause-twins c = blue_turned c.self.inside c.args.self.now c.self.invariant c.self.view_is c.args.d c.edge_of.ensures.twin

pub returns-clause-ascend : goal.returns-clause-ascend
returns-clause-ascend c = blue_ascends c.self.inside c.args.self.now c.self.invariant c.self.view_is c.args.d c.edge_of.result c.edge_of.ensures.place c.edge_of.ensures.below

pub returns-clause-twins : goal.returns-clause-twins
returns-clause-twins c = blue_turned c.self.inside c.args.self.now c.self.invariant c.self.view_is c.args.d c.edge_of.ensures.twin
