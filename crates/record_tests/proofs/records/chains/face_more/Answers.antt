use Rattle.std.proofs.Common.{sym, ◌∙◌}
use Rattle.std.proofs.lemmas.Bool.{eqb-true}
use Rattle.record_tests.proofs.ListsAsked.{two_faces}
use Rattle.record_tests.proofs.records.chains.face_more.Goals as goal

pub returns-clause-two : goal.returns-clause-two
returns-clause-two c w = two_faces c.reserve.new.self c.add_face.new.self c.add_face.result c.add_face.ensures.tables (c.reserve.ensures.tables ∙ c.requires) (eqb-true c.add_face.result.0 1 (sym c.eq.ensures ∙ w))
