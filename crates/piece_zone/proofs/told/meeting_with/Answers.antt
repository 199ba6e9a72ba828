use Rattle.std.proofs.Common.{ap, ◌∙◌, subst}
use Rattle.exact_plane.specs.Line.{Line}
use Rattle.exact_plane.specs.Meet.{IsMeeting}
use Rattle.exact_plane.specs.Span.{Span, IsSpan, span_of_segment}
use Rattle.exact_plane.specs.declared.meets.Meet.TheVariants.{Apart, At, Along}
use Rattle.zone_walk.proofs.Courses.{course}
use Rattle.piece_zone.specs.Told.{span_of, AreAside}
use Rattle.piece_zone.proofs.Aside.{aside}
use Rattle.piece_zone.proofs.ToldOf.{told_apart}
use Rattle.piece_zone.proofs.told.meeting_with.Goals as goal

pub returns-in-Apart : goal.returns-in-Apart
returns-in-Apart c = λ s ends e.
    let (n, here) = c.requires.piece in
    let v = c.args.records.now.graph in
    let h = c.args.history.now in
    let k = c.args.piece.now in
    told_apart v h c.requires.past c.row_laws.ensures.pieces s (course s ends) (subst IsSpan e c.laws.ensures) n k here
    (subst IsSpan c.span_of-span.ensures.value c.span_of-span.ensures.span)
    (subst (λ (z : Span). IsMeeting z (span_of k) Apart) e (subst (λ (z : Span). IsMeeting c.args.whole.now z Apart) c.span_of-span.ensures.value c.in-Apart.ensures))

pub returns-in-At : goal.returns-in-At
returns-in-At c = λ s ends e.
    let k = c.args.piece.now in
    c.meeting_at.ensures s ends (subst IsSpan e c.laws.ensures) (subst IsSpan c.span_of-span.ensures.value c.span_of-span.ensures.span)
    (subst (λ (z : Span). IsMeeting z (span_of k) (At c.in-At.point)) e (subst (λ (z : Span). IsMeeting c.args.whole.now z (At c.in-At.point)) c.span_of-span.ensures.value c.in-At.ensures))

pub returns-in-Along : goal.returns-in-Along
returns-in-Along c = λ s ends e.
    let k = c.args.piece.now in
    c.meeting_from.ensures s c.in-Along.field-1 ends (subst IsSpan e c.laws.ensures) (subst IsSpan c.span_of-span.ensures.value c.span_of-span.ensures.span)
    (subst (λ (z : Span). IsMeeting z (span_of k) (Along c.in-Along.first c.in-Along.field-1)) e (subst (λ (z : Span). IsMeeting c.args.whole.now z (Along c.in-Along.first c.in-Along.field-1)) c.span_of-span.ensures.value c.in-Along.ensures))

pub returns-then-are_aside : goal.returns-then-are_aside
returns-then-are_aside c = λ s ends e.
    let (n, here) = c.requires.piece in
    let v = c.args.records.now.graph in
    let h = c.args.history.now in
    let k = c.args.piece.now in
    let K = subst IsSpan c.span_of-span.ensures.value c.span_of-span.ensures.span in
    told_apart v h c.requires.past c.row_laws.ensures.pieces s (course s ends) (subst IsSpan e c.laws.ensures) n k here K
    (aside (span_of_segment s) (span_of k) K (subst (λ (l : Line). AreAside l k.from k.to) (c.line.ensures ∙ ap (λ (z : Span). z.line) e) (c.are_aside.ensures c.if-are_aside.true)))

pub span_of-span-requires-clause-past : goal.span_of-span-requires-clause-past
span_of-span-requires-clause-past c = (c.args.records.now.graph, c.requires.past)
