use Rattle.dcel_records.proofs.Rooms.{room_same}
use Rattle.dcel_records.proofs.Holding.{graph_seen}
use Rattle.std.proofs.Common.{ap, arith}
use Rattle.dcel_records.specs.ListChanges.{vertex_listed}
use Rattle.dcel_records.proofs.Holding.{vertex_key}
use Rattle.dcel_records.proofs.Relinked.{lists_after, face_key}
use Rattle.dcel_records.proofs.BareWritten.{graph_sound, graph_part_same, bare_none, vertex_others, set_sound, set_tables, set_lists}
use Rattle.dcel_records.proofs.Isolated.{isolated_fit, isolated_set}
use Rattle.dcel_records.proofs.Marked.{marked_relinked}
use Rattle.dcel_records.proofs.records.Records.set_bare.Goals as goal

pub link_first-requires-clause-chained : goal.link_first-requires-clause-chained
link_first-requires-clause-chained c = vertex_others c.self.inside _ c.self.view_is c.self.invariant.faces c.args.v (bare_none c.self.inside _ c.self.view_is c.self.invariant.faces c.args.v c.requires.elsewhere)

pub link_first-requires-clause-has : goal.link_first-requires-clause-has
link_first-requires-clause-has c = vertex_key c.self.inside.vertices c.self.inside.darts _ (graph_seen c.self.inside _ c.self.view_is) c.args.v c.requires.vertex

pub link_first-requires-clause-face : goal.link_first-requires-clause-face
link_first-requires-clause-face c = face_key c.self.inside _ c.self.view_is c.args.face c.requires.face

pub overflow_add-self : goal.overflow_add-self
overflow_add-self c =
    let k = c.self.invariant.isolated in
    let m = isolated_set c.self.inside.vertices c.link_first.new.rows c.self.inside.faces c.link_first.new.faces c.args.v.0 c.args.face c.link_first.ensures (bare_none c.self.inside _ c.self.view_is c.self.invariant.faces c.args.v c.requires.elsewhere) in
    let f = isolated_fit c.link_first.new.rows in
    omega arith

pub invariant_of-self : goal.invariant_of-self
invariant_of-self c = record {
  graph = graph_sound c.self.inside.vertices c.link_first.new.rows c.self.inside.darts c.link_first.ensures.kept.rests _ c.self.invariant.graph;
  faces = set_sound c.self.inside _ c.self.view_is c.self.invariant.faces c.args.v (bare_none c.self.inside _ c.self.view_is c.self.invariant.faces c.args.v c.requires.elsewhere) c.args.face
      c.link_first.new.rows c.link_first.new.faces c.link_first.ensures;
  vertex_room = room_same c.self.inside.vertex_room c.self.inside.vertices c.link_first.new.rows c.self.invariant.vertex_room c.link_first.ensures.kept.len c.link_first.ensures.kept.capacity;
  cycle_room = c.self.invariant.cycle_room;
  on_cycles = c.self.invariant.on_cycles;
  marked = marked_relinked c.self.inside.vertices c.link_first.new.rows c.self.inside.darts c.link_first.ensures.kept.rests c.self.invariant.marked;
  moved = c.self.invariant.moved;
  isolated = let k = c.self.invariant.isolated in let m = isolated_set c.self.inside.vertices c.link_first.new.rows c.self.inside.faces c.link_first.new.faces c.args.v.0 c.args.face c.link_first.ensures (bare_none c.self.inside _ c.self.view_is c.self.invariant.faces c.args.v c.requires.elsewhere) in omega arith;
  keys = c.self.invariant.keys;
}

pub returns-clause-tables : goal.returns-clause-tables
returns-clause-tables c =
    set_tables c.self.inside _ c.self.view_is c.self.invariant.faces c.args.v (bare_none c.self.inside _ c.self.view_is c.self.invariant.faces c.args.v c.requires.elsewhere)
    c.args.face c.link_first.new.rows c.link_first.new.faces c.link_first.ensures

pub returns-clause-lists : goal.returns-clause-lists
returns-clause-lists c =
    lists_after c.self.inside _ c.self.view_is c.link_first.new.rows c.self.inside.cycles c.link_first.new.faces (vertex_listed c.args.v c.args.face)
    (set_lists c.self.inside _ c.self.view_is c.self.invariant.faces c.args.v (bare_none c.self.inside _ c.self.view_is c.self.invariant.faces c.args.v c.requires.elsewhere) c.args.face
    c.link_first.new.rows c.link_first.new.faces c.link_first.ensures)

pub returns-clause-spare : goal.returns-clause-spare
returns-clause-spare c =
    let s = ap (λ v. v.faces.spare_cycles) c.self.view_is in
    let t = ap (λ v. v.faces.spare_faces) c.self.view_is in
    let p = ap (λ v. v.faces.capacity_of_cycles) c.self.view_is in
    let q = ap (λ v. v.faces.capacity_of_faces) c.self.view_is in
    let d = c.link_first.ensures.kept.faces_len in
    let e = c.link_first.ensures.kept.faces_capacity in
    record { of_cycles = omega arith; of_faces = omega arith; capacity_of_cycles = omega arith; capacity_of_faces = omega arith }

pub returns-clause-graph : goal.returns-clause-graph
returns-clause-graph c = graph_part_same c.self.inside c.link_first.new.rows c.link_first.ensures.kept.rests _ c.self.view_is c.link_first.ensures.kept.len
