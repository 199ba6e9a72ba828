use Rattle.std.proofs.Common.{sym, ◌∙◌}
use Rattle.std.proofs.Math.Bool.{beq}
use Rattle.locate_landmarks.proofs.Crossed.{crossing_found, same_test, other_test}
use Rattle.locate_landmarks.proofs.crossing.later_crossing.Goals as goal

pub returns-then-is_later-clause-crossing : goal.returns-then-is_later-clause-crossing
returns-then-is_later-clause-crossing c =
    let k = c.requires.drawn in
    let east = c.args.course.now.eastward in
    crossing_found c.args.glance.now.graph c.args.course.now k.sound c.args.dart k.has c.args.looked.now k.look c.args.rises c.requires.target c.requires.source c.line-line.result c.line-line.ensures
    (sym c.is_on_way.ensures ∙ c.if-not-is_on_way.false) (beq c.args.rises east) (same_test c.args.rises east) (other_test c.args.rises east) c.dart_towards.result c.dart_towards.ensures c.upper_end.result c.upper_end.ensures
