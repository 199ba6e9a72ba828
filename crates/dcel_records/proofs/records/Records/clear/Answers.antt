use Rattle.dcel_records.proofs.Rooms.{room_after}
use Rattle.std.proofs.Common.{◌≤◌, subst, ◌∙◌}
use Rattle.slab.specs.Slab.{slab_len}
use Rattle.dcel_records.proofs.Whole.{graph_empty, records_empty, vertices_spare, darts_spare}
use Rattle.dcel_records.proofs.Started.{lone_sound, lone_tables, lone_lists}
use Rattle.dcel_records.proofs.OnCycles.{on_none}
use Rattle.dcel_records.proofs.Isolated.{isolated_none}
use Rattle.dcel_records.proofs.Marked.{marked_none}
use Rattle.dcel_records.proofs.records.Records.clear.Goals as goal

pub invariant_of-self : goal.invariant_of-self
invariant_of-self c = record {
  graph = records_empty _ _ c.clear.ensures.empty c.clear-2.ensures.empty c.clear-5.ensures.map;
  faces = lone_sound c.clear.new.self c.clear-2.new.self c.clear-3.new.self c.clear-4.new.self c.insert_reserved.new.self c.clear.ensures.empty c.clear-2.ensures.empty
      c.clear-3.ensures.empty c.clear-4.ensures.empty c.insert_reserved.result (c.insert_reserved.ensures.key ∙ c.clear-4.ensures.first_key) c.no_rows_of_face.result
      c.insert_reserved.ensures.updates c.no_rows_of_face.ensures.cycle c.no_rows_of_face.ensures.bare;
  vertex_room = room_after _ _ _ c.self.invariant.vertex_room c.clear.ensures.empty c.clear.ensures.capacity;
  cycle_room = room_after _ _ _ c.self.invariant.cycle_room c.clear-3.ensures.empty c.clear-3.ensures.capacity;
  on_cycles = on_none c.clear-2.new.self c.clear-3.new.self c.clear-2.ensures.empty;
  marked = marked_none c.clear.new.self c.clear-2.new.self c.clear-2.ensures.empty;
  moved = c.self.invariant.moved;
  isolated = isolated_none c.clear.new.self c.clear.ensures.empty;
  keys = c.self.invariant.keys;
}

pub returns-clause-graph : goal.returns-clause-graph
returns-clause-graph c = graph_empty _ _ c.clear.ensures.empty c.clear-2.ensures.empty

pub returns-clause-vertices : goal.returns-clause-vertices
returns-clause-vertices c = vertices_spare c.self.inside _ c.self.view_is c.clear.new.self c.self.invariant.vertex_room.holds c.clear.ensures.empty

pub returns-clause-darts : goal.returns-clause-darts
returns-clause-darts c =
    darts_spare c.self.inside _ c.self.view_is c.clear-2.new.self (subst (λ n. slab_len c.self.inside.darts ≤ n) c.capacity-darts.ensures.value c.capacity-darts.ensures.holds_all)
    c.clear-2.ensures.empty c.clear-2.ensures.capacity

pub returns-clause-tables : goal.returns-clause-tables
returns-clause-tables c =
    lone_tables c.clear.new.self c.clear-2.new.self c.clear-3.new.self c.clear-4.new.self c.insert_reserved.new.self c.clear.ensures.empty c.clear-2.ensures.empty
    c.clear-3.ensures.empty c.clear-4.ensures.empty c.insert_reserved.result (c.insert_reserved.ensures.key ∙ c.clear-4.ensures.first_key) c.no_rows_of_face.result
    c.insert_reserved.ensures.updates c.no_rows_of_face.ensures.cycle c.no_rows_of_face.ensures.bare

pub returns-clause-lists : goal.returns-clause-lists
returns-clause-lists c =
    lone_lists c.clear.new.self c.clear-2.new.self c.clear-3.new.self c.clear-4.new.self c.insert_reserved.new.self c.clear.ensures.empty c.clear-2.ensures.empty
    c.clear-3.ensures.empty c.clear-4.ensures.empty c.insert_reserved.result (c.insert_reserved.ensures.key ∙ c.clear-4.ensures.first_key) c.no_rows_of_face.result
    c.insert_reserved.ensures.updates c.no_rows_of_face.ensures.cycle c.no_rows_of_face.ensures.bare c.self.inside.moved c.self.inside.cycle_room
