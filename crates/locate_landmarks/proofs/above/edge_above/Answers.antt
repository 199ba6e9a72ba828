use Rattle.std.proofs.Common.{ap, ◌∙◌, subst}
use Rattle.exact_plane.specs.Span.{Span}
use Rattle.plane_graphs.proofs.Lines.{point_is_proper}
use Rattle.dcel_records.specs.RecordsView.{tables_of}
use Rattle.locate_walk.specs.Passages.{IsPassage}
use Rattle.locate_walk.proofs.Finds.{ahead_way, behind_way}
use Rattle.locate_landmarks.proofs.SeenAbove.{ahead_above, behind_above}
use Rattle.locate_landmarks.proofs.above.edge_above.Goals as goal

pub between-requires : goal.between-requires
between-requires c =
    let k = c.requires.drawn in
    rw (c.source.ensures, c.target.ensures)
    (ahead_way c.args.glance.now.graph (tables_of c.args.glance.now) k.sound c.args.point.now (point_is_proper c.args.point.now c.laws.ensures) c.args.dart k.has c.args.looked.now k.look
    (subst (IsPassage c.args.looked.now.source c.args.point.now c.args.looked.now.target) c.in-Forward.is c.requires.passage) c.line.result c.line.ensures)

pub returns-in-Forward : goal.returns-in-Forward
returns-in-Forward c =
    let k = c.requires.drawn in
    ahead_above c.args.glance.now.graph (tables_of c.args.glance.now) k.sound c.args.point.now (point_is_proper c.args.point.now c.laws.ensures) c.args.dart k.has c.args.looked.now k.look c.requires.past
    (subst (IsPassage c.args.looked.now.source c.args.point.now c.args.looked.now.target) c.in-Forward.is c.requires.passage)
    c.between.result (ap (λ (s : Span). s.lower) c.between.ensures ∙ c.source.ensures, ap (λ (s : Span). s.upper) c.between.ensures ∙ c.target.ensures)

pub between-requires-in-Backward : goal.between-requires-in-Backward
between-requires-in-Backward c =
    let k = c.requires.drawn in
    rw (c.source-in-Backward.ensures, c.target-in-Backward.ensures)
    (behind_way c.args.glance.now.graph (tables_of c.args.glance.now) k.sound c.args.point.now (point_is_proper c.args.point.now c.laws.ensures) c.args.dart k.has c.args.looked.now k.look
    (subst (IsPassage c.args.looked.now.source c.args.point.now c.args.looked.now.target) c.in-Backward.is c.requires.passage)
    c.twin.result c.twin.ensures.twin c.line-in-Backward.result c.line-in-Backward.ensures)

pub returns-in-Backward : goal.returns-in-Backward
returns-in-Backward c =
    let k = c.requires.drawn in
    behind_above c.args.glance.now.graph (tables_of c.args.glance.now) k.sound c.args.point.now (point_is_proper c.args.point.now c.laws.ensures) c.args.dart k.has c.args.looked.now k.look c.requires.past
    (subst (IsPassage c.args.looked.now.source c.args.point.now c.args.looked.now.target) c.in-Backward.is c.requires.passage)
    c.twin.result c.twin.ensures.twin c.between-in-Backward.result (ap (λ (s : Span). s.lower) c.between-in-Backward.ensures ∙ c.target-in-Backward.ensures, ap (λ (s : Span). s.upper) c.between-in-Backward.ensures ∙ c.source-in-Backward.ensures)
