use Rattle.dcel_records.proofs.Rooms.{room_same}
use Rattle.dcel_records.proofs.Holding.{graph_seen}
use Rattle.std.proofs.Common.{ap, arith}
use Rattle.dcel_records.specs.ListChanges.{vertex_unlisted}
use Rattle.dcel_records.proofs.Holding.{vertex_key}
use Rattle.dcel_records.proofs.Relinked.{lists_after}
use Rattle.dcel_records.proofs.BareWritten.{graph_sound, graph_part_same, left_sound, left_tables, left_lists}
use Rattle.dcel_records.proofs.Marked.{marked_relinked}
use Rattle.dcel_records.proofs.records.Records.clear_bare.Goals as goal

pub leave_face-requires-clause-chained : goal.leave_face-requires-clause-chained
leave_face-requires-clause-chained c = c.self.invariant.faces.bare

pub leave_face-requires-clause-has : goal.leave_face-requires-clause-has
leave_face-requires-clause-has c = vertex_key c.self.inside.vertices c.self.inside.darts _ (graph_seen c.self.inside _ c.self.view_is) c.args.v c.requires

pub leave_face-requires-clause-counted : goal.leave_face-requires-clause-counted
leave_face-requires-clause-counted c = c.self.invariant.isolated

pub invariant_of-self : goal.invariant_of-self
invariant_of-self c = record {
  graph = graph_sound c.self.inside.vertices c.leave_face.new.vertices c.self.inside.darts c.leave_face.ensures.left.kept.rests _ c.self.invariant.graph;
  faces = left_sound c.self.inside _ c.self.view_is c.self.invariant.faces c.args.v c.leave_face.new.vertices c.leave_face.new.faces c.leave_face.ensures.left;
  vertex_room = room_same c.self.inside.vertex_room c.self.inside.vertices c.leave_face.new.vertices c.self.invariant.vertex_room c.leave_face.ensures.left.kept.len c.leave_face.ensures.left.kept.capacity;
  cycle_room = c.self.invariant.cycle_room;
  on_cycles = c.self.invariant.on_cycles;
  marked = marked_relinked c.self.inside.vertices c.leave_face.new.vertices c.self.inside.darts c.leave_face.ensures.left.kept.rests c.self.invariant.marked;
  moved = c.self.invariant.moved;
  isolated = c.leave_face.ensures.counted;
  keys = c.self.invariant.keys;
}

pub returns-clause-tables : goal.returns-clause-tables
returns-clause-tables c = left_tables c.self.inside _ c.self.view_is c.self.invariant.faces c.args.v c.leave_face.new.vertices c.leave_face.new.faces c.leave_face.ensures.left

pub returns-clause-lists : goal.returns-clause-lists
returns-clause-lists c =
    lists_after c.self.inside _ c.self.view_is c.leave_face.new.vertices c.self.inside.cycles c.leave_face.new.faces (vertex_unlisted c.args.v)
    (left_lists c.self.inside _ c.self.view_is c.self.invariant.faces c.args.v c.leave_face.new.vertices c.leave_face.new.faces c.leave_face.ensures.left)

pub returns-clause-spare : goal.returns-clause-spare
returns-clause-spare c =
    let s = ap (λ v. v.faces.spare_cycles) c.self.view_is in
    let t = ap (λ v. v.faces.spare_faces) c.self.view_is in
    let p = ap (λ v. v.faces.capacity_of_cycles) c.self.view_is in
    let q = ap (λ v. v.faces.capacity_of_faces) c.self.view_is in
    let d = c.leave_face.ensures.left.kept.faces_len in
    let e = c.leave_face.ensures.left.kept.faces_capacity in
    record { of_cycles = omega arith; of_faces = omega arith; capacity_of_cycles = omega arith; capacity_of_faces = omega arith }

pub returns-clause-graph : goal.returns-clause-graph
returns-clause-graph c = graph_part_same c.self.inside c.leave_face.new.vertices c.leave_face.ensures.left.kept.rests _ c.self.view_is c.leave_face.ensures.left.kept.len
