use Rattle.std.proofs.Common.{◌≡◌, sym, ap, ◌∙◌, subst}
use Rattle.plane_graphs.proofs.Lines.{point_is_proper}
use Rattle.slab_laws.specs.View.{HasVertex, point_in}
use Rattle.sound_views.proofs.ForwardDarts.{target_has}
use Rattle.dcel_records.specs.RecordsView.{tables_of}
use Rattle.locate_walk.specs.Passages.{IsPassage}
use Rattle.locate_walk.proofs.Finds.{ahead_way, ahead_found, behind_way, behind_found, apart_found}
use Rattle.locate_walk.proofs.found.found_at_dart.Goals as goal

pub side_of-requires : goal.side_of-requires
side_of-requires c =
    rw (c.source-in-Forward.ensures, c.target-in-Forward.ensures)
    (ahead_way c.args.glance.now.graph (tables_of c.args.glance.now) c.requires.map.sound.graph c.args.point.now (point_is_proper c.args.point.now c.laws.ensures) c.args.dart c.requires.dart c.args.looked.now c.requires.looked
    (subst (IsPassage c.args.looked.now.source c.args.point.now c.args.looked.now.target) c.in-Forward.is c.requires.passage) c.line.result c.line.ensures)

pub returns-in-Forward : goal.returns-in-Forward
returns-in-Forward c =
    ahead_found c.args.glance.now.graph (tables_of c.args.glance.now) c.requires.map.sound.graph c.args.point.now (point_is_proper c.args.point.now c.laws.ensures) c.args.dart c.requires.dart c.args.looked.now c.requires.looked
    (subst (IsPassage c.args.looked.now.source c.args.point.now c.args.looked.now.target) c.in-Forward.is c.requires.passage)
    (record { lower = c.source-in-Forward.result; upper = c.target-in-Forward.result; line = c.line.result }) (c.source-in-Forward.ensures, c.target-in-Forward.ensures) c.side_of.result c.side_of.ensures

pub side_of-requires-in-Backward : goal.side_of-requires-in-Backward
side_of-requires-in-Backward c =
    rw (c.source-in-Backward.ensures, c.target-in-Backward.ensures)
    (behind_way c.args.glance.now.graph (tables_of c.args.glance.now) c.requires.map.sound.graph c.args.point.now (point_is_proper c.args.point.now c.laws.ensures) c.args.dart c.requires.dart c.args.looked.now c.requires.looked
    (subst (IsPassage c.args.looked.now.source c.args.point.now c.args.looked.now.target) c.in-Backward.is c.requires.passage)
    c.twin.result c.twin.ensures.twin c.line-in-Backward.result c.line-in-Backward.ensures)

pub returns-in-Backward : goal.returns-in-Backward
returns-in-Backward c =
    behind_found c.args.glance.now.graph (tables_of c.args.glance.now) c.requires.map.sound.graph c.args.point.now (point_is_proper c.args.point.now c.laws.ensures) c.args.dart c.requires.dart c.args.looked.now c.requires.looked
    (subst (IsPassage c.args.looked.now.source c.args.point.now c.args.looked.now.target) c.in-Backward.is c.requires.passage)
    c.twin.result c.twin.ensures.twin (record { lower = c.target-in-Backward.result; upper = c.source-in-Backward.result; line = c.line-in-Backward.result }) (c.target-in-Backward.ensures, c.source-in-Backward.ensures) c.side_of-in-Backward.result c.side_of-in-Backward.ensures

pub returns-in-Apart : goal.returns-in-Apart
returns-in-Apart c =
    apart_found c.args.glance.now.graph (tables_of c.args.glance.now) c.requires.map.sound.graph c.args.point.now (point_is_proper c.args.point.now c.laws.ensures) c.args.dart c.requires.dart c.args.looked.now c.requires.looked
    (subst (IsPassage c.args.looked.now.source c.args.point.now c.args.looked.now.target) c.in-Apart.is c.requires.passage)

pub returns-in-ToPoint : goal.returns-in-ToPoint
returns-in-ToPoint c =
    let v = c.args.glance.now.graph in
    let there : c.args.looked.now.target ≡ c.args.point.now = subst (IsPassage c.args.looked.now.source c.args.point.now c.args.looked.now.target) c.in-ToPoint.is c.requires.passage in
    record {
      met = (subst (HasVertex v) (sym c.target.ensures) (target_has v c.requires.map.sound.graph c.args.dart c.requires.dart), ap (point_in v) c.target.ensures ∙ sym c.requires.looked.1 ∙ there);
      face = tt;
    }
