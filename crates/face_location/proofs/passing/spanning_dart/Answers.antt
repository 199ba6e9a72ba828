use Rattle.std.proofs.Common.{sym, ap, ◌∙◌, subst}
use Rattle.plane_graphs.proofs.Lines.{point_is_proper}
use Rattle.slab_laws.specs.View.{HasVertex, point_in, source_in}
use Rattle.face_location.proofs.Passings.{goes_ahead, goes_back, both_before, none_across}
use Rattle.face_location.proofs.passing.spanning_dart.Goals as goal

pub point-source-requires : goal.point-source-requires
point-source-requires g c = subst (HasVertex (g.R.Darts.graph c.args.records.now)) (sym c.source.ensures) (c.requires.sound.linked.source c.args.dart c.requires.dart)

pub point-target-requires : goal.point-target-requires
point-target-requires g c = subst (HasVertex (g.R.Darts.graph c.args.records.now)) (sym c.source-2.ensures) (c.requires.sound.linked.source c.twin-twin.result c.twin-twin.ensures.has)

pub returns-then-precedes-2 : goal.returns-then-precedes-2
returns-then-precedes-2 g c =
    let v = g.R.Darts.graph c.args.records.now in
    goes_ahead v c.requires.sound c.args.dart c.requires.dart c.args.point.now (point_is_proper c.args.point.now c.laws.ensures)
    c.point-source.result c.point-target.result (c.point-source.ensures ∙ ap (point_in v) c.source.ensures) (c.point-target.ensures ∙ ap (point_in v) (c.source-2.ensures ∙ ap (source_in v) c.twin-twin.ensures.twin))
    (sym c.if-precedes.ensures) (sym c.if-precedes-2.ensures)

pub returns-then-precedes : goal.returns-then-precedes
returns-then-precedes g c =
    let v = g.R.Darts.graph c.args.records.now in
    both_before v c.requires.sound c.args.dart c.requires.dart c.args.point.now (point_is_proper c.args.point.now c.laws.ensures)
    c.point-source.result c.point-target.result (c.point-source.ensures ∙ ap (point_in v) c.source.ensures) (c.point-target.ensures ∙ ap (point_in v) (c.source-2.ensures ∙ ap (source_in v) c.twin-twin.ensures.twin))
    (sym c.if-precedes.ensures) (sym c.if-precedes-2.ensures)

pub returns-then-is_between : goal.returns-then-is_between
returns-then-is_between g c =
    let v = g.R.Darts.graph c.args.records.now in
    goes_back v c.requires.sound c.args.dart c.requires.dart c.args.point.now (point_is_proper c.args.point.now c.laws.ensures)
    c.point-source.result c.point-target.result (c.point-source.ensures ∙ ap (point_in v) c.source.ensures) (c.point-target.ensures ∙ ap (point_in v) (c.source-2.ensures ∙ ap (source_in v) c.twin-twin.ensures.twin))
    (sym c.if-is_between.ensures) c.twin-twin.result c.twin-twin.ensures.twin

pub returns : goal.returns
returns g c =
    let v = g.R.Darts.graph c.args.records.now in
    none_across v c.requires.sound c.args.dart c.requires.dart c.args.point.now (point_is_proper c.args.point.now c.laws.ensures)
    c.point-source.result c.point-target.result (c.point-source.ensures ∙ ap (point_in v) c.source.ensures) (c.point-target.ensures ∙ ap (point_in v) (c.source-2.ensures ∙ ap (source_in v) c.twin-twin.ensures.twin))
    (sym c.if-precedes.ensures) (sym c.if-is_between.ensures)
