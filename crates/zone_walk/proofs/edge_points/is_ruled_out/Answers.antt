use Rattle.std.proofs.Common.{◌≡◌, true, ◌&&◌, ◌||◌, sym, ◌∙◌, subst}
use Rattle.exact_plane.specs.Line.{Line}
use Rattle.exact_plane.specs.Span.{IsSpan}
use Rattle.zone_walk.specs.Found.{is_left, is_right}
use Rattle.zone_walk.specs.Sights.{span_in}
use Rattle.zone_walk.proofs.SeenSpans.{span_is, aside, told_line}
use Rattle.zone_walk.proofs.edge_points.is_ruled_out.Goals as goal

pub returns : goal.returns
returns c = λ v d h told.
    let p = c.source-source.result in
    let q = c.target-target.result in
    let e = c.source-source.ensures ∙ h.look.0 in
    let f = c.target-target.ensures ∙ h.look.1 in
    let is : IsSpan (span_in v d) = span_is v h.sound d h.has p q c.line.result e f (told_line c.args.looked.now.line _ _ c.line.ensures h.look.2) c.laws.ensures c.laws-2.ensures c.laws-3.ensures in
    (is, aside v h.sound d h.has c.args.whole.now is p q e f (subst (λ (l : Line). (is_left l p && is_left l q) || (is_right l p && is_right l q) ≡ true) c.line-2.ensures (sym c.are_aside.ensures ∙ told)))
