use Rattle.std.proofs.Common.{sym, subst}
use Rattle.path_zone.specs.Gathered.{IsOnZoned}
use Rattle.path_zone.specs.Zoned.{HasAdded}
use Rattle.path_zone.proofs.Ends.{ends_added, lower_zoned, upper_zoned}
use Rattle.path_zone.proofs.zoned.add_ends.Goals as goal

pub add_point-requires : goal.add_point-requires
add_point-requires c =
    let (v, f, h) = c.requires.zoned in
    (v, f, c.args.over.now.side, subst (IsOnZoned v f c.args.over.now.side c.args.over.now.plan) (sym c.lower.ensures.value) (lower_zoned v f c.args.over.now c.args.side.now h c.lower.ensures.ends c.requires.over))

pub add_point-requires-2 : goal.add_point-requires-2
add_point-requires-2 c =
    let (v, f, h) = c.requires.zoned in
    (v, f, c.args.over.now.side, subst (IsOnZoned v f c.args.over.now.side c.args.over.now.plan) (sym c.upper.ensures) (upper_zoned v f c.args.over.now c.args.side.now h c.lower.ensures.ends c.requires.over))

pub returns : goal.returns
returns c v f h =
    let z = c.args.over.now in
    let s = c.args.side.now in
    let low = lower_zoned v f z s h c.lower.ensures.ends c.requires.over in
    let high = upper_zoned v f z s h c.lower.ensures.ends c.requires.over in
    ends_added v f z s c.args.meetings.now.items c.add_point.new.meetings.items c.add_point-2.new.meetings.items c.lower.ensures.ends
    (subst (λ p. HasAdded v f z.plan p c.args.meetings.now.items c.add_point.new.meetings.items) c.lower.ensures.value (c.in_ok-add_point.ensures v f z.side (subst (IsOnZoned v f z.side z.plan) (sym c.lower.ensures.value) low)))
    (subst (λ p. HasAdded v f z.plan p c.add_point.new.meetings.items c.add_point-2.new.meetings.items) c.upper.ensures (c.in_ok-add_point-2.ensures v f z.side (subst (IsOnZoned v f z.side z.plan) (sym c.upper.ensures) high)))
