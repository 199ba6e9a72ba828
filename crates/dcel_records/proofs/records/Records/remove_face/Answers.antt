use Rattle.dcel_records.proofs.FacesWritten.{face_less_sound, face_less_tables, face_less_lists}
use Rattle.dcel_records.proofs.Relinked.{lists_after, face_key}
use Rattle.dcel_records.proofs.records.Records.remove_face.Goals as goal

pub remove-requires : goal.remove-requires
remove-requires c = face_key c.self.inside _ c.self.view_is c.args.face c.requires.face

pub invariant_of-self : goal.invariant_of-self
invariant_of-self c = record {
  graph = c.self.invariant.graph;
  faces = face_less_sound c.self.inside _ c.self.view_is c.self.invariant.faces c.remove.new.self c.args.face c.remove.ensures.updates c.requires.cycles c.requires.bare c.requires.bounded;
  vertex_room = c.self.invariant.vertex_room;
  cycle_room = c.self.invariant.cycle_room;
  on_cycles = c.self.invariant.on_cycles;
  marked = c.self.invariant.marked;
  moved = c.self.invariant.moved;
  isolated = c.self.invariant.isolated;
  keys = c.self.invariant.keys;
}

pub returns-clause-tables : goal.returns-clause-tables
returns-clause-tables c = face_less_tables c.self.inside _ c.self.view_is c.self.invariant.faces c.remove.new.self c.args.face c.remove.ensures.updates c.requires.cycles c.requires.bare

pub returns-clause-lists : goal.returns-clause-lists
returns-clause-lists c =
    lists_after c.self.inside _ c.self.view_is c.self.inside.vertices c.self.inside.cycles c.remove.new.self (λ l. l)
    (face_less_lists c.self.inside _ c.self.view_is c.self.invariant.faces c.remove.new.self c.args.face c.remove.ensures.updates c.requires.cycles c.requires.bare)
