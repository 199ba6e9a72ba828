use Rattle.record_tests.proofs.ListsAsked.{bare_left, none_out}
use Rattle.record_tests.proofs.records.chains.vertex_goes.Goals as goal

pub remove_vertex-requires-clause-bare : goal.remove_vertex-requires-clause-bare
remove_vertex-requires-clause-bare c = none_out c.args.records.now c.requires.lone c.args.v

pub returns-clause-bare : goal.returns-clause-bare
returns-clause-bare c = bare_left c.args.records.now c.remove_vertex.new.self c.args.v c.remove_vertex.ensures.tables c.requires.lone
