use Rattle.dcel_records.proofs.Rooms.{room_same}
use Rattle.std.proofs.Common.{ap, arith, ◌∙◌}
use Rattle.dcel_records.specs.ListChanges.{vertex_relisted}
use Rattle.dcel_records.proofs.Places.{node_row}
use Rattle.dcel_records.specs.Placing.{vertex_placing}
use Rattle.dcel_records.proofs.Relinked.{lists_after, face_key}
use Rattle.dcel_records.proofs.BareWritten.{graph_sound, graph_part_same, bare_node, vertex_there, bare_face_there, both, moved_sound, moved_tables, moved_lists}
use Rattle.dcel_records.proofs.Isolated.{isolated_again}
use Rattle.dcel_records.proofs.Marked.{marked_relinked}
use Rattle.dcel_records.proofs.records.Records.move_bare.Goals as goal

pub unlink-requires-clause-chained : goal.unlink-requires-clause-chained
unlink-requires-clause-chained c = c.self.invariant.faces.bare

pub unlink-requires-clause-has : goal.unlink-requires-clause-has
unlink-requires-clause-has c = bare_node c.self.inside _ c.self.view_is c.self.invariant.faces c.args.v c.requires.vertex

pub link_first-requires-clause-chained : goal.link_first-requires-clause-chained
link_first-requires-clause-chained c = c.unlink.ensures.chained

pub link_first-requires-clause-has : goal.link_first-requires-clause-has
link_first-requires-clause-has c =
    vertex_there c.self.inside.vertices c.unlink.new.rows c.self.inside.faces c.unlink.new.faces c.unlink.ensures.kept c.args.v.0
    (node_row vertex_placing c.self.inside.vertices c.args.v.0 (bare_node c.self.inside _ c.self.view_is c.self.invariant.faces c.args.v c.requires.vertex))

pub link_first-requires-clause-face : goal.link_first-requires-clause-face
link_first-requires-clause-face c = bare_face_there c.self.inside.vertices c.unlink.new.rows c.self.inside.faces c.unlink.new.faces c.unlink.ensures.kept c.args.face.0 (face_key c.self.inside _ c.self.view_is c.args.face c.requires.face)

pub invariant_of-self : goal.invariant_of-self
invariant_of-self c =
    let b = both c.self.inside _ c.self.view_is c.self.invariant.faces c.args.v c.unlink.new.rows c.unlink.new.faces c.unlink.ensures c.args.face c.link_first.new.rows c.link_first.new.faces c.link_first.ensures in
    record {
      graph = graph_sound c.self.inside.vertices c.link_first.new.rows c.self.inside.darts b.rests _ c.self.invariant.graph;
      faces = moved_sound c.self.inside _ c.self.view_is c.self.invariant.faces c.args.v c.unlink.new.rows c.unlink.new.faces c.unlink.ensures c.args.face c.link_first.new.rows c.link_first.new.faces c.link_first.ensures;
      vertex_room = room_same c.self.inside.vertex_room c.self.inside.vertices c.link_first.new.rows c.self.invariant.vertex_room b.len b.capacity;
      cycle_room = c.self.invariant.cycle_room;
      on_cycles = c.self.invariant.on_cycles;
      marked = marked_relinked c.self.inside.vertices c.link_first.new.rows c.self.inside.darts b.rests c.self.invariant.marked;
      moved = c.self.invariant.moved;
      isolated = c.self.invariant.isolated ∙ isolated_again c.unlink.new.rows c.link_first.new.rows c.unlink.new.faces c.link_first.new.faces c.args.v.0 c.args.face c.link_first.ensures
          c.self.inside.vertices c.self.inside.faces c.unlink.ensures (bare_node c.self.inside _ c.self.view_is c.self.invariant.faces c.args.v c.requires.vertex);
      keys = c.self.invariant.keys;
    }

pub returns-clause-tables : goal.returns-clause-tables
returns-clause-tables c = moved_tables c.self.inside _ c.self.view_is c.self.invariant.faces c.args.v c.unlink.new.rows c.unlink.new.faces c.unlink.ensures c.args.face c.link_first.new.rows c.link_first.new.faces c.link_first.ensures

pub returns-clause-lists : goal.returns-clause-lists
returns-clause-lists c =
    lists_after c.self.inside _ c.self.view_is c.link_first.new.rows c.self.inside.cycles c.link_first.new.faces (vertex_relisted c.args.v c.args.face)
    (moved_lists c.self.inside _ c.self.view_is c.self.invariant.faces c.args.v c.unlink.new.rows c.unlink.new.faces c.unlink.ensures c.args.face c.link_first.new.rows c.link_first.new.faces c.link_first.ensures)

pub returns-clause-spare : goal.returns-clause-spare
returns-clause-spare c =
    let s = ap (λ v. v.faces.spare_cycles) c.self.view_is in
    let t = ap (λ v. v.faces.spare_faces) c.self.view_is in
    let p = ap (λ v. v.faces.capacity_of_cycles) c.self.view_is in
    let q = ap (λ v. v.faces.capacity_of_faces) c.self.view_is in
    let d = c.unlink.ensures.kept.faces_len in
    let e = c.unlink.ensures.kept.faces_capacity in
    let d' = c.link_first.ensures.kept.faces_len in
    let e' = c.link_first.ensures.kept.faces_capacity in
    record { of_cycles = omega arith; of_faces = omega arith; capacity_of_cycles = omega arith; capacity_of_faces = omega arith }

pub returns-clause-graph : goal.returns-clause-graph
returns-clause-graph c = let b = both c.self.inside _ c.self.view_is c.self.invariant.faces c.args.v c.unlink.new.rows c.unlink.new.faces c.unlink.ensures c.args.face c.link_first.new.rows c.link_first.new.faces c.link_first.ensures in graph_part_same c.self.inside c.link_first.new.rows b.rests _ c.self.view_is b.len
