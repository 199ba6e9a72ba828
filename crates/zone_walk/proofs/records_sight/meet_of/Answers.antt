use Rattle.std.proofs.Common.{◌≡◌, subst}
use Rattle.exact_plane.specs.Meet.{IsMeeting}
use Rattle.exact_plane.specs.Span.{Span}
use Rattle.zone_walk.specs.Sights.{span_in}
use Rattle.zone_walk.proofs.records_sight.meet_of.Goals as goal

pub returns : goal.returns
returns c =
    let v = c.args.records.now.graph in
    let span = c.span_of-span.result in
    let same : span ≡ span_in v c.args.dart = λ i. record { lower = (c.span_of-span.ensures.edge i).low; upper = (c.span_of-span.ensures.edge i).high; line = c.span_of-span.ensures.line i } in
    subst (λ (a : Span). IsMeeting a (span_in v c.args.dart) c.span_meeting.result) c.whole.ensures
    (subst (λ (a : Span). IsMeeting c.whole.result a c.span_meeting.result) same c.span_meeting.ensures)
