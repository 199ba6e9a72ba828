use Rattle.std.proofs.Common.{sym, subst}
use Rattle.plane_graphs.specs.Ascending.{Member}
use Rattle.plane_graphs.proofs.Sorting.{member_at}
use Rattle.path_zone.specs.Zoned.{sides_zoned}
use Rattle.path_zone.proofs.Gathering.{crossed_all, crossed_first, crossed_next, no_more_sides, side_at}
use Rattle.path_zone.proofs.zoned.add_crossings.Goals as goal

pub others-init : goal.others-init
others-init c = crossed_first c.args.side.now.side (sides_zoned c.args.others.now) c.args.side.now.plan c.args.meetings.now.items

pub add_crossing-requires : goal.add_crossing-requires
add_crossing-requires c =
    let (v, f, a, all) = c.requires in
    (v, f, a, all c.other-item.result (subst (λ z. Member z c.args.others.now) (sym c.other-item.is) (member_at c.args.others.now c.others.other-index c.other-item.result c.others-test.true)))

pub others-preserved : goal.others-preserved
others-preserved c =
    let (v, f, a, all) = c.requires in
    let e = c.in_ok-add_crossing.ensures in
    let p = side_at c.args.others.now c.others.other-index c.other-item.result c.others-test.true c.other-item.is in
    crossed_next c.args.side.now.side (sides_zoned c.args.others.now) c.args.side.now.plan c.args.meetings.now.items c.others.meetings.items c.others.other-index c.others.invariant c.other-item.result.side p.0 p.1 c.add_crossing.new.meetings.items e.more e.there (e.more v f a.zone).kept

pub returns-clause-there : goal.returns-clause-there
returns-clause-there c =
    crossed_all c.args.side.now.side (sides_zoned c.args.others.now) c.args.side.now.plan c.args.meetings.now.items c.others.meetings.items c.others.other-index c.others.invariant (no_more_sides c.args.others.now c.others.other-index c.others-test.false)
