use Rattle.path_zone.proofs.Added.{all_added, more_added, on_zoned}
use Rattle.path_zone.proofs.zoned.add_crossing.Goals as goal

pub common_point-requires : goal.common_point-requires
common_point-requires c = c.requires

pub spot_within-requires : goal.spot_within-requires
spot_within-requires c =
    let (v, f, a, b) = c.requires in
    (v, f, c.args.side.now.side, on_zoned c.args.side.now.side c.args.other.now.side c.args.side.now.plan (a.span, a.ends) (b.span, b.ends) c.in-Some.point c.in-Some.ensures.only v f a.zone)

pub returns-in_ok-push-clause-more : goal.returns-in_ok-push-clause-more
returns-in_ok-push-clause-more c =
    let (v, f, a, b) = c.requires in
    more_added c.args.side.now.side c.args.other.now.side c.args.side.now.plan (a.span, a.ends) (b.span, b.ends) c.in-Some.point c.in-Some.ensures.only c.in-Some-spot_within.spot c.in-Some-spot_within.ensures c.args.meetings.now.items c.push.new.self.items c.in_ok-push.ensures.items

pub returns-in_ok-push-clause-there : goal.returns-in_ok-push-clause-there
returns-in_ok-push-clause-there c =
    let (v, f, a, b) = c.requires in
    all_added c.args.side.now.side c.args.other.now.side c.args.side.now.plan (a.span, a.ends) (b.span, b.ends) c.in-Some.point c.in-Some.ensures.only c.in-Some-spot_within.spot c.in-Some-spot_within.ensures c.args.meetings.now.items c.push.new.self.items c.in_ok-push.ensures.items c.in-Some.ensures.all
