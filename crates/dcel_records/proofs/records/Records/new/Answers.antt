use Rattle.dcel_records.proofs.Rooms.{room_first}
use Rattle.std.proofs.Common.{ap, arith, Some, ◌∙◌}
use Rattle.dcel_records.proofs.Whole.{graph_empty, records_empty}
use Rattle.dcel_records.proofs.Started.{lone_sound, lone_tables, lone_lists, lists_ready}
use Rattle.dcel_records.proofs.OnCycles.{on_none}
use Rattle.dcel_records.proofs.Isolated.{isolated_none}
use Rattle.dcel_records.proofs.Marked.{marked_none}
use Rattle.dcel_records.proofs.records.Records.new.Goals as goal

pub invariant_of-result : goal.invariant_of-result
invariant_of-result c = record {
  graph = records_empty c.new.result c.new-2.result c.new.ensures.empty c.new-2.ensures.empty c.new-6.ensures.map;
  faces = lone_sound c.new.result c.new-2.result c.new-3.result c.reserve.new.self c.insert_reserved.new.self c.new.ensures.empty c.new-2.ensures.empty c.new-3.ensures.empty
      (ap (λ s. s.slots) c.reserve.ensures.rest_kept ∙ c.new-faces.ensures.empty) c.insert_reserved.result
      (c.insert_reserved.ensures.key ∙ ap (λ s. s.vacant_key) c.reserve.ensures.rest_kept ∙ c.new-faces.ensures.first_key) c.no_rows_of_face.result c.insert_reserved.ensures.updates
      c.no_rows_of_face.ensures.cycle c.no_rows_of_face.ensures.bare;
  vertex_room = room_first c.new.result c.new.ensures.empty;
  cycle_room = room_first c.new-3.result c.new-3.ensures.empty;
  on_cycles = on_none c.new-2.result c.new-3.result c.new-2.ensures.empty;
  marked = marked_none c.new.result c.new-2.result c.new-2.ensures.empty;
  moved = lists_ready c.new-4.result c.new-4.ensures.cycles c.new-4.ensures.vertices;
  isolated = isolated_none c.new.result c.new.ensures.empty;
  keys = omega arith;
}

pub returns-clause-empty : goal.returns-clause-empty
returns-clause-empty c = graph_empty c.new.result c.new-2.result c.new.ensures.empty c.new-2.ensures.empty

pub returns-clause-tables : goal.returns-clause-tables
returns-clause-tables c =
    lone_tables c.new.result c.new-2.result c.new-3.result c.reserve.new.self c.insert_reserved.new.self c.new.ensures.empty c.new-2.ensures.empty c.new-3.ensures.empty
    (ap (λ s. s.slots) c.reserve.ensures.rest_kept ∙ c.new-faces.ensures.empty) c.insert_reserved.result
    (c.insert_reserved.ensures.key ∙ ap (λ s. s.vacant_key) c.reserve.ensures.rest_kept ∙ c.new-faces.ensures.first_key) c.no_rows_of_face.result c.insert_reserved.ensures.updates
    c.no_rows_of_face.ensures.cycle c.no_rows_of_face.ensures.bare

pub returns-clause-lists : goal.returns-clause-lists
returns-clause-lists c =
    lone_lists c.new.result c.new-2.result c.new-3.result c.reserve.new.self c.insert_reserved.new.self c.new.ensures.empty c.new-2.ensures.empty c.new-3.ensures.empty
    (ap (λ s. s.slots) c.reserve.ensures.rest_kept ∙ c.new-faces.ensures.empty) c.insert_reserved.result
    (c.insert_reserved.ensures.key ∙ ap (λ s. s.vacant_key) c.reserve.ensures.rest_kept ∙ c.new-faces.ensures.first_key) c.no_rows_of_face.result c.insert_reserved.ensures.updates
    c.no_rows_of_face.ensures.cycle c.no_rows_of_face.ensures.bare (Some c.new-4.result) 0
