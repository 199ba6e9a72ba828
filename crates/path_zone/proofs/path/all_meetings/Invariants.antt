use Rattle.dcel_records.specs.RecordsView.{tables_of}
use Rattle.path_zone.proofs.OnTheWay.{IsOnTheWay}
use Rattle.path_zone.proofs.path.all_meetings.Given as goal

abbrev pub invariant-sides : goal.invariant-sides
invariant-sides g l = IsOnTheWay l.records.graph (tables_of l.records) l.sides l.one-items l.zones.items l.meetings.items l.one-index l.fn.steps l.steps
