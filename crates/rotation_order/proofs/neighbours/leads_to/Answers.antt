use Rattle.std.proofs.Common.{sym, ap, ◌∙◌, subst}
use Rattle.slab_laws.specs.View.{HasVertex, point_in, target_in}
use Rattle.rotation_order.proofs.Points.{told_same, told_other}
use Rattle.rotation_order.proofs.neighbours.leads_to.Goals as goal

pub point-requires : goal.point-requires
point-requires g c =
    let v = g.R.Darts.graph c.args.records.now in
    subst (HasVertex v) (sym c.target.ensures) (c.requires.sound.linked.source _ (c.requires.sound.twinned.has c.args.dart c.requires.dart))

pub returns-clause-there : goal.returns-clause-there
returns-clause-there g c =
    let v = g.R.Darts.graph c.args.records.now in
    λ e. told_same c.point.result c.args.point.now (point_in v (target_in v c.args.dart)) c.eq.result (c.point.ensures ∙ ap (point_in v) c.target.ensures) c.eq.ensures e

pub returns-clause-elsewhere : goal.returns-clause-elsewhere
returns-clause-elsewhere g c =
    let v = g.R.Darts.graph c.args.records.now in
    λ e. told_other c.point.result c.args.point.now (point_in v (target_in v c.args.dart)) c.eq.result (c.point.ensures ∙ ap (point_in v) c.target.ensures) c.eq.ensures e
