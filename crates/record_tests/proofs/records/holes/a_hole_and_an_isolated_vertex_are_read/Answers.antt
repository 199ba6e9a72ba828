use Rattle.record_tests.proofs.ListsAsked.{lone_first}
use Rattle.record_tests.proofs.records.holes.a_hole_and_an_isolated_vertex_are_read.Goals as goal

pub hole_comes-right-requires-clause-lone : goal.hole_comes-right-requires-clause-lone
hole_comes-right-requires-clause-lone g c = lone_first c.in_ok-records.records c.in_ok-records.ensures.empty c.in_ok-records.ensures.tables
