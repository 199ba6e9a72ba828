use Rattle.std.proofs.Common.{sym, subst, ap, ◌∙◌}
use Rattle.slab_laws.specs.View.{HasVertex, point_in}
use Rattle.sound_views.proofs.ForwardDarts.{target_has, way_along, edge_along}
use Rattle.lower_envelope.proofs.edges.span_along.Goals as goal

pub point-lower-requires : goal.point-lower-requires
point-lower-requires g c = subst (HasVertex (g.R.Darts.graph c.args.records.now)) (sym c.source.ensures) (c.requires.sound.linked.source c.args.dart c.requires.forward.0)

pub point-upper-requires : goal.point-upper-requires
point-upper-requires g c = subst (HasVertex (g.R.Darts.graph c.args.records.now)) (sym c.target.ensures) (target_has (g.R.Darts.graph c.args.records.now) c.requires.sound c.args.dart c.requires.forward.0)

pub between-requires : goal.between-requires
between-requires g c =
    let v = g.R.Darts.graph c.args.records.now in
    way_along v c.requires.sound c.args.dart c.requires.forward _ _ _ (c.point-lower.ensures ∙ ap (point_in v) c.source.ensures) (c.point-upper.ensures ∙ ap (point_in v) c.target.ensures) c.line.ensures.line

pub returns : goal.returns
returns g c =
    let v = g.R.Darts.graph c.args.records.now in
    edge_along v c.requires.sound c.args.dart c.requires.forward _ _ _
    (c.point-lower.ensures ∙ ap (point_in v) c.source.ensures) (c.point-upper.ensures ∙ ap (point_in v) c.target.ensures) c.line.ensures.line
    c.between.result c.between.ensures
