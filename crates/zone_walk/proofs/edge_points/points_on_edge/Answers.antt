use Rattle.std.proofs.Common.{◌∙◌, subst}
use Rattle.exact_plane.specs.Meet.{IsMeeting, IsOnlyCommon, IsCommonPart}
use Rattle.exact_plane.specs.Span.{Span}
use Rattle.exact_plane.specs.declared.meets.Meet.{Meet}
use Rattle.zone_walk.specs.Sights.{span_in}
use Rattle.zone_walk.proofs.SeenSpans.{span_is, told_line}
use Rattle.zone_walk.proofs.edge_points.points_on_edge.Goals as goal

pub returns-in-Apart : goal.returns-in-Apart
returns-in-Apart c = λ v d h. (
  span_is v h.sound d h.has c.source-source.result c.target-target.result c.line.result (c.source-source.ensures ∙ h.look.0) (c.target-target.ensures ∙ h.look.1) (told_line c.args.looked.now.line _ _ c.line.ensures h.look.2) c.laws.ensures c.laws-2.ensures c.laws-3.ensures,
  subst (λ (m : Meet). IsMeeting c.args.whole.now (span_in v d) m) c.in-Apart.is (subst (λ (a : Span). IsMeeting c.args.whole.now a c.span_meeting.result) (c.edge_seen-edge.ensures v d h) c.span_meeting.ensures),
)

pub returns-in-At : goal.returns-in-At
returns-in-At c = λ v d h. record {
  source = c.source-source.ensures ∙ h.look.0;
  target = c.target-target.ensures ∙ h.look.1;
  span = span_is v h.sound d h.has c.source-source.result c.target-target.result c.line.result (c.source-source.ensures ∙ h.look.0) (c.target-target.ensures ∙ h.look.1) (told_line c.args.looked.now.line _ _ c.line.ensures h.look.2) c.laws.ensures c.laws-2.ensures c.laws-3.ensures;
  meet = subst (λ (a : Span). IsOnlyCommon c.args.whole.now a c.in-At.point) (c.edge_seen-edge.ensures v d h) c.in-At.ensures;
}

pub returns-in-Along : goal.returns-in-Along
returns-in-Along c = λ v d h. record {
  source = c.source-source.ensures ∙ h.look.0;
  target = c.target-target.ensures ∙ h.look.1;
  span = span_is v h.sound d h.has c.source-source.result c.target-target.result c.line.result (c.source-source.ensures ∙ h.look.0) (c.target-target.ensures ∙ h.look.1) (told_line c.args.looked.now.line _ _ c.line.ensures h.look.2) c.laws.ensures c.laws-2.ensures c.laws-3.ensures;
  meet = subst (λ (a : Span). IsCommonPart c.args.whole.now a c.in-Along.first c.in-Along.last) (c.edge_seen-edge.ensures v d h) c.in-Along.ensures;
}
