use Rattle.std.proofs.Common.{rules, ◌≡◌, pos, sym, subst, Less, Equal, Greater}
use Rattle.std.specs.Ordering.{int_cmp}
use Rattle.integers.proofs.Compare.{less_out, equal_out, greater_out}
use Rattle.exact_plane.specs.Meet.{IsMeeting}
use Rattle.exact_plane.specs.MeetOf.{weight_of, part_of, crossing_meet}
use Rattle.exact_plane.specs.Span.{IsSpan}
use Rattle.exact_plane.proofs.Meetings.{same_line-is, parallel_apart, crossing_is, meeting_turned, weight_turned}
use Rattle.exact_plane.proofs.Parts.{part_is}
use Rattle.exact_plane.proofs.meets.span_meeting.Goals as goal

pub returns-then-is_one_line : goal.returns-then-is_one_line
returns-then-is_one_line c =
    let s = c.args.first.now in
    let t = c.args.second.now in
    let hs : IsSpan c.args.first.now = search rules in
    let ht : IsSpan c.args.second.now = search rules in
    let e : c.part.result ≡ part_of c.args.first.now c.args.second.now = search rules in
    subst (IsMeeting s t) (sym e) (part_is s t hs ht (same_line-is s.line t.line (search rules)))

pub crossing-requires : goal.crossing-requires
crossing-requires c =
    let o : int_cmp (weight_of c.args.first.now.line c.args.second.now.line) (pos 0) ≡ Less = search rules in
    weight_turned c.args.first.now.line c.args.second.now.line (less_out _ _ o)

pub crossing-requires-in-Greater : goal.crossing-requires-in-Greater
crossing-requires-in-Greater c =
    let o : int_cmp (weight_of c.args.first.now.line c.args.second.now.line) (pos 0) ≡ Greater = search rules in
    greater_out _ _ o

pub returns-in-Less : goal.returns-in-Less
returns-in-Less c =
    let s = c.args.first.now in
    let t = c.args.second.now in
    let hs : IsSpan c.args.first.now = search rules in
    let ht : IsSpan c.args.second.now = search rules in
    let o : int_cmp (weight_of c.args.first.now.line c.args.second.now.line) (pos 0) ≡ Less = search rules in
    let e : c.crossing.result ≡ crossing_meet c.args.second.now c.args.first.now = search rules in
    subst (IsMeeting s t) (sym e) (meeting_turned t s (crossing_meet t s) (crossing_is t s ht hs (weight_turned s.line t.line (less_out _ _ o))))

pub returns-in-Equal : goal.returns-in-Equal
returns-in-Equal c =
    let s = c.args.first.now in
    let t = c.args.second.now in
    let hs : IsSpan c.args.first.now = search rules in
    let ht : IsSpan c.args.second.now = search rules in
    let o : int_cmp (weight_of c.args.first.now.line c.args.second.now.line) (pos 0) ≡ Equal = search rules in
    parallel_apart s t hs ht (search rules) (equal_out _ _ o)

pub returns-in-Greater : goal.returns-in-Greater
returns-in-Greater c =
    let s = c.args.first.now in
    let t = c.args.second.now in
    let hs : IsSpan c.args.first.now = search rules in
    let ht : IsSpan c.args.second.now = search rules in
    let o : int_cmp (weight_of c.args.first.now.line c.args.second.now.line) (pos 0) ≡ Greater = search rules in
    let e : c.crossing-in-Greater.result ≡ crossing_meet c.args.first.now c.args.second.now = search rules in
    subst (IsMeeting s t) (sym e) (crossing_is s t hs ht (greater_out _ _ o))

pub cross_weight-weight-requires : goal.cross_weight-weight-requires
cross_weight-weight-requires c = record { a1 = search rules; b1 = search rules; a2 = search rules; b2 = search rules }
