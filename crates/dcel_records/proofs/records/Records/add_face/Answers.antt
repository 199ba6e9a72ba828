use Rattle.slab_laws.specs.View.{face_id}
use Rattle.dcel_records.proofs.FacesWritten.{face_new, face_more_sound, face_more_tables, face_more_lists}
use Rattle.dcel_records.proofs.Relinked.{lists_after}
use Rattle.dcel_records.proofs.records.Records.add_face.Goals as goal

pub invariant_of-self : goal.invariant_of-self
invariant_of-self c = record {
  graph = c.self.invariant.graph;
  faces = face_more_sound c.self.inside _ c.self.view_is c.self.invariant.faces c.insert_reserved.new.self c.insert_reserved.result c.no_rows_of_face.result
      c.insert_reserved.ensures.was_vacant c.insert_reserved.ensures.updates c.no_rows_of_face.ensures.cycle c.no_rows_of_face.ensures.bare;
  vertex_room = c.self.invariant.vertex_room;
  cycle_room = c.self.invariant.cycle_room;
  on_cycles = c.self.invariant.on_cycles;
  marked = c.self.invariant.marked;
  moved = c.self.invariant.moved;
  isolated = c.self.invariant.isolated;
  keys = c.self.invariant.keys;
}

pub returns-clause-name : goal.returns-clause-name
returns-clause-name c = face_new c.self.inside _ c.self.view_is c.self.invariant.faces (face_id c.insert_reserved.result) c.insert_reserved.ensures.was_vacant

pub returns-clause-tables : goal.returns-clause-tables
returns-clause-tables c =
    face_more_tables c.self.inside _ c.self.view_is c.self.invariant.faces c.insert_reserved.new.self c.insert_reserved.result c.no_rows_of_face.result
    c.insert_reserved.ensures.was_vacant c.insert_reserved.ensures.updates c.no_rows_of_face.ensures.cycle c.no_rows_of_face.ensures.bare

pub returns-clause-lists : goal.returns-clause-lists
returns-clause-lists c =
    lists_after c.self.inside _ c.self.view_is c.self.inside.vertices c.self.inside.cycles c.insert_reserved.new.self (λ l. l)
    (face_more_lists c.self.inside _ c.self.view_is c.self.invariant.faces c.insert_reserved.new.self c.insert_reserved.result c.no_rows_of_face.result c.insert_reserved.ensures.was_vacant
    c.insert_reserved.ensures.updates c.no_rows_of_face.ensures.cycle c.no_rows_of_face.ensures.bare)
