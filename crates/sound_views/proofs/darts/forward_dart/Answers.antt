use Rattle.std.proofs.Common.{sym, subst, ap, ◌∙◌}
use Rattle.plane_graphs.specs.Line.{precedes}
use Rattle.slab_laws.specs.View.{HasVertex, point_in}
use Rattle.sound_views.proofs.ForwardDarts.{target_has, is_ahead, is_behind}
use Rattle.sound_views.proofs.darts.forward_dart.Goals as goal

pub point-requires : goal.point-requires
point-requires g c = subst (HasVertex (g.R.Darts.graph c.args.records.now)) (sym c.source.ensures) (c.requires.sound.linked.source c.args.dart c.requires.dart)

pub point-requires-2 : goal.point-requires-2
point-requires-2 g c = subst (HasVertex (g.R.Darts.graph c.args.records.now)) (sym c.target.ensures) (target_has (g.R.Darts.graph c.args.records.now) c.requires.sound c.args.dart c.requires.dart)

pub returns-then-lt : goal.returns-then-lt
returns-then-lt g c =
    let v = g.R.Darts.graph c.args.records.now in
    is_ahead v c.requires.sound c.args.dart c.requires.dart
    ((λ i. precedes (sym (c.point.ensures ∙ ap (point_in v) c.source.ensures) i) (sym (c.point-2.ensures ∙ ap (point_in v) c.target.ensures) i)) ∙ sym c.lt.ensures ∙ c.if-lt.true)

pub returns-else-lt : goal.returns-else-lt
returns-else-lt g c =
    let v = g.R.Darts.graph c.args.records.now in
    is_behind v c.requires.sound c.args.dart c.requires.dart
    ((λ i. precedes (sym (c.point.ensures ∙ ap (point_in v) c.source.ensures) i) (sym (c.point-2.ensures ∙ ap (point_in v) c.target.ensures) i)) ∙ sym c.lt.ensures ∙ c.if-lt.false)
    c.twin.result c.twin.ensures.twin
