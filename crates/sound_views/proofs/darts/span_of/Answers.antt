use Rattle.std.proofs.Common.{sym, subst, ap, ◌∙◌}
use Rattle.exact_plane.specs.Span.{Span}
use Rattle.slab_laws.specs.View.{HasVertex, point_in}
use Rattle.sound_views.proofs.ForwardDarts.{target_has, way_along, edge_along}
use Rattle.sound_views.proofs.darts.span_of.Goals as goal

pub point-lower-requires : goal.point-lower-requires
point-lower-requires g c =
    let f = c.forward_dart-forward.ensures.forward in
    subst (HasVertex (g.R.Darts.graph c.args.records.now)) (sym c.source.ensures) (c.requires.sound.linked.source c.forward_dart-forward.result f.0)

pub point-upper-requires : goal.point-upper-requires
point-upper-requires g c =
    let f = c.forward_dart-forward.ensures.forward in
    subst (HasVertex (g.R.Darts.graph c.args.records.now)) (sym c.target.ensures) (target_has (g.R.Darts.graph c.args.records.now) c.requires.sound c.forward_dart-forward.result f.0)

pub between-requires : goal.between-requires
between-requires g c =
    let v = g.R.Darts.graph c.args.records.now in
    way_along v c.requires.sound c.forward_dart-forward.result c.forward_dart-forward.ensures.forward _ _ _
    (c.point-lower.ensures ∙ ap (point_in v) c.source.ensures) (c.point-upper.ensures ∙ ap (point_in v) c.target.ensures) c.line.ensures.line

pub returns-clause-edge : goal.returns-clause-edge
returns-clause-edge g c =
    let v = g.R.Darts.graph c.args.records.now in
    edge_along v c.requires.sound c.forward_dart-forward.result c.forward_dart-forward.ensures.forward _ _ _
    (c.point-lower.ensures ∙ ap (point_in v) c.source.ensures) (c.point-upper.ensures ∙ ap (point_in v) c.target.ensures) c.line.ensures.line
    c.between.result c.between.ensures
    ∙ c.forward_dart-forward.ensures.edge

pub returns-clause-line : goal.returns-clause-line
returns-clause-line g c =
    ap (λ (s : Span). s.line) c.between.ensures
    ∙ c.line.ensures.line ∙ c.forward_dart-forward.ensures.line
