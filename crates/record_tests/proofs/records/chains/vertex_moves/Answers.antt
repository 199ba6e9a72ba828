use Rattle.record_tests.proofs.ListsAsked.{lone_set, bare_set}
use Rattle.record_tests.proofs.records.chains.vertex_moves.Goals as goal

pub returns-clause-lone : goal.returns-clause-lone
returns-clause-lone c = lone_set c.args.records.now c.move_bare.new.self c.args.v c.args.face c.move_bare.ensures.tables (c.requires.lone.bare c.args.v c.requires.bare) c.move_bare.ensures.graph c.requires.lone

pub returns-clause-bare : goal.returns-clause-bare
returns-clause-bare c = bare_set c.args.records.now c.move_bare.new.self c.args.v c.args.face c.move_bare.ensures.tables
