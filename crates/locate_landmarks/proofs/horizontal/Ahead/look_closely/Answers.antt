use Rattle.std.proofs.Common.{sym, ap, ◌∙◌}
use Rattle.locate_landmarks.specs.Courses.{is_above_level}
use Rattle.locate_landmarks.proofs.Crossed.{one_later, other_test}
use Rattle.locate_landmarks.proofs.horizontal.Ahead.look_closely.Goals as goal

pub later_crossing-requires-clause-source : goal.later_crossing-requires-clause-source
later_crossing-requires-clause-source c =
    ap (is_above_level c.args.self.now.course.now) (sym c.source.ensures) ∙ sym c.is_above.ensures ∙ other_test c.is_above.result c.is_above-rises.result c.if-is_above-rises.false

pub returns-in-Some-clause-later : goal.returns-in-Some-clause-later
returns-in-Some-clause-later c =
    one_later c.args.sight.now.graph c.args.self.now.course.now c.args.self.now.last c.in-Some.crossing c.requires.last c.in-Some.ensures.crossing c.in-Some.ensures.later
