use Rattle.dcel_records.specs.RecordsView.{tables_of}
use Rattle.path_zone.proofs.Planned.{planned}
use Rattle.path_zone.proofs.path.path_zone_by.Goals as goal

pub returns-clause-zone : goal.returns-clause-zone
returns-clause-zone g c =
    let a = c.in_ok-meetings.ensures in
    let e = c.in_order.ensures in
    planned c.args.records.now.graph (tables_of c.args.records.now) c.args.sides.now c.in_ok-meetings.meetings.items a.more a.each a.own c.in_order.new.meetings.items e.ascend e.from e.points
