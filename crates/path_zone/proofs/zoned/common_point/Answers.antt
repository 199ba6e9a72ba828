use Rattle.path_zone.proofs.Crossings.{crossed_by, not_one, only_by}
use Rattle.path_zone.proofs.zoned.common_point.Goals as goal

pub returns-in-At-clause-only : goal.returns-in-At-clause-only
returns-in-At-clause-only c =
    let (v, f, a, b) = c.requires in
    only_by c.args.side.now.side c.args.other.now.side a.span b.span c.args.side.now.whole c.args.other.now.whole c.span_meeting.result c.in-At.point a.whole b.whole c.span_meeting.ensures c.in-At.is

pub returns-in-At-clause-all : goal.returns-in-At-clause-all
returns-in-At-clause-all c x h =
    let (v, f, a, b) = c.requires in
    let e = crossed_by c.args.side.now.side c.args.other.now.side a.span b.span c.args.side.now.whole c.args.other.now.whole c.span_meeting.result a.whole b.whole c.span_meeting.ensures x h in
    cc

pub returns-in-Apart : goal.returns-in-Apart
returns-in-Apart c =
    let (v, f, a, b) = c.requires in
    record {
      only = tt;
      all = λ x h. absurd (not_one c.span_meeting.result x (crossed_by c.args.side.now.side c.args.other.now.side a.span b.span c.args.side.now.whole c.args.other.now.whole c.span_meeting.result a.whole b.whole c.span_meeting.ensures x h) c.in-Apart.is);
    }
