use Rattle.zone_walk.proofs.Gathering.{first_taking, next_taking, all_taking}
use Rattle.zone_walk.proofs.search.take_all.Goals as goal

pub each-init : goal.each-init
each-init c = first_taking c.args.search.now c.args.meetings.now

pub each-preserved : goal.each-preserved
each-preserved c =
    let e = c.take.ensures in
    next_taking c.args.search.now c.args.meetings.now c.each.search c.each.meeting-index c.each.invariant c.meeting-item.result c.each-test.true c.meeting-item.is c.take.new.self e.same e.gathered e.kept e.taken e.only

pub returns-clause-taken : goal.returns-clause-taken
returns-clause-taken c = all_taking c.args.search.now c.args.meetings.now c.each.search c.each.meeting-index c.each.invariant c.each-test.false
