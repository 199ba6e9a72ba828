use Rattle.record_tests.proofs.ListsAsked.{lone_first}
use Rattle.record_tests.proofs.records.chains.isolated_vertices_come_move_and_go.Goals as goal

pub vertices_come-right-requires-clause-lone : goal.vertices_come-right-requires-clause-lone
vertices_come-right-requires-clause-lone g c = lone_first c.in_ok-records.records c.in_ok-records.ensures.empty c.in_ok-records.ensures.tables
