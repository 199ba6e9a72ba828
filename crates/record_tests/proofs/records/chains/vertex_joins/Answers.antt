use Rattle.record_tests.proofs.ListsAsked.{lone_cleared, bare_left}
use Rattle.record_tests.proofs.records.chains.vertex_joins.Goals as goal

pub returns-clause-lone : goal.returns-clause-lone
returns-clause-lone c = lone_cleared c.args.records.now c.clear_bare.new.self c.args.v c.clear_bare.ensures.tables c.requires.lone c.clear_bare.ensures.graph

pub returns-clause-bare : goal.returns-clause-bare
returns-clause-bare c = bare_left c.args.records.now c.clear_bare.new.self c.args.v c.clear_bare.ensures.tables c.requires.lone
