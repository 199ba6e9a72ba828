use Rattle.std.proofs.Common.{sym, ap, ◌∙◌}
use Rattle.std.proofs.lemmas.Bool.{eqb-true}
use Rattle.arr_notes.specs.FaceWriters.{with_face}
use Rattle.record_tests.proofs.ListsAsked.{third_face, two_stay}
use Rattle.record_tests.proofs.records.ranks.third_more.Goals as goal

pub returns-clause-two : goal.returns-clause-two
returns-clause-two c = two_stay c.args.records.now c.add_face.new.self c.add_face.result (c.add_face.ensures.tables ∙ ap (with_face c.add_face.result) c.reserve.ensures.tables) c.requires.two

pub returns-clause-third : goal.returns-clause-third
returns-clause-third c w =
    third_face c.args.records.now c.add_face.new.self c.add_face.result (c.add_face.ensures.tables ∙ ap (with_face c.add_face.result) c.reserve.ensures.tables)
    (eqb-true c.add_face.result.0 2 (sym c.eq.ensures ∙ w))
