use Rattle.std.proofs.Common.{sym, ◌∙◌}
use Rattle.zone_walk.proofs.SeenSpans.{way_ahead, way_back, span_ahead, span_back, told_line}
use Rattle.zone_walk.proofs.edge_points.edge_seen.Goals as goal

pub between-requires : goal.between-requires
between-requires c =
    let v = c.requires.look.0 in
    let d = c.requires.look.1 in
    let h = c.requires.look.2 in
    way_ahead v h.sound d h.has c.args.source.now c.args.target.now c.line-line.result (c.requires.source ∙ h.look.0) (c.requires.target ∙ h.look.1) (told_line c.args.looked.now.line _ _ c.line-line.ensures h.look.2) (sym c.lt.ensures ∙ c.if-lt.true)

pub between-requires-else-lt : goal.between-requires-else-lt
between-requires-else-lt c =
    let v = c.requires.look.0 in
    let d = c.requires.look.1 in
    let h = c.requires.look.2 in
    way_back v h.sound d h.has c.args.source.now c.args.target.now c.line-line.result (c.requires.source ∙ h.look.0) (c.requires.target ∙ h.look.1) (told_line c.args.looked.now.line _ _ c.line-line.ensures h.look.2) (sym c.lt.ensures ∙ c.if-lt.false)

pub returns-then-lt : goal.returns-then-lt
returns-then-lt c = λ v d h.
    span_ahead v h.sound d h.has c.args.source.now c.args.target.now c.line-line.result (c.requires.source ∙ h.look.0) (c.requires.target ∙ h.look.1) (told_line c.args.looked.now.line _ _ c.line-line.ensures h.look.2) (sym c.lt.ensures ∙ c.if-lt.true)
    c.between.result c.between.ensures

pub returns-else-lt : goal.returns-else-lt
returns-else-lt c = λ v d h.
    span_back v h.sound d h.has c.args.source.now c.args.target.now c.line-line.result (c.requires.source ∙ h.look.0) (c.requires.target ∙ h.look.1) (told_line c.args.looked.now.line _ _ c.line-line.ensures h.look.2) (sym c.lt.ensures ∙ c.if-lt.false)
    c.between-else-lt.result c.between-else-lt.ensures
