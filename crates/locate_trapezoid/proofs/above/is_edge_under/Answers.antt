use Rattle.std.proofs.Common.{ap, sym, subst, ◌∙◌, inl, inr}
use Rattle.slab_laws.specs.View.{HasVertex, point_in}
use Rattle.edge_predicates.proofs.Sides.{is_plus}
use Rattle.sound_views.proofs.ForwardDarts.{target_has}
use Rattle.locate_trapezoid.proofs.Unders.{under_line}
use Rattle.locate_trapezoid.proofs.above.is_edge_under.Goals as goal

pub point-lower-requires : goal.point-lower-requires
point-lower-requires c = subst (HasVertex c.args.records.now.graph) (sym c.source.ensures) (c.requires.sound.linked.source c.args.dart c.requires.dart.0)

pub point-upper-requires : goal.point-upper-requires
point-upper-requires c = subst (HasVertex c.args.records.now.graph) (sym c.target.ensures) (target_has c.args.records.now.graph c.requires.sound c.args.dart c.requires.dart.0)

pub returns-in-Plus : goal.returns-in-Plus
returns-in-Plus c =
    let v = c.args.records.now.graph in
    ap is_plus (sym c.in-Plus.is)
    ∙ under_line v c.requires.sound c.args.dart c.requires.dart c.point-lower.result c.point-upper.result c.line-line.result
    (c.point-lower.ensures ∙ ap (point_in v) c.source.ensures) (c.point-upper.ensures ∙ ap (point_in v) c.target.ensures) c.line-line.ensures.line
    c.args.point.now c.side.result c.laws.ensures c.laws-2.ensures c.laws-3.ensures c.side.ensures

pub returns-in-Zero : goal.returns-in-Zero
returns-in-Zero c =
    let v = c.args.records.now.graph in
    let k = under_line v c.requires.sound c.args.dart c.requires.dart c.point-lower.result c.point-upper.result c.line-line.result
    (c.point-lower.ensures ∙ ap (point_in v) c.source.ensures) (c.point-upper.ensures ∙ ap (point_in v) c.target.ensures) c.line-line.ensures.line
    c.args.point.now c.side.result c.laws.ensures c.laws-2.ensures c.laws-3.ensures c.side.ensures in
    elim c.in-Zero.is [ inl e ↦ ap is_plus (sym e) ∙ k | inr e ↦ ap is_plus (sym e) ∙ k ]
