use Rattle.dcel_records.proofs.Rooms.{room_less}
use Rattle.dcel_records.proofs.Holding.{graph_seen}
use Rattle.std.proofs.Common.{ap, sym, arith, ◌∙◌}
use Rattle.dcel_records.specs.ListChanges.{vertex_unlisted}
use Rattle.dcel_records.proofs.Holding.{vertex_key}
use Rattle.dcel_records.proofs.Writing.{gone_graph, gone_kept}
use Rattle.dcel_records.proofs.Pins.{one_if, pins_gone}
use Rattle.dcel_records.proofs.Relinked.{lists_after}
use Rattle.dcel_records.proofs.BareWritten.{graph_sound, graph_left, vertex_there, gone_sound, gone_tables, gone_lists}
use Rattle.dcel_records.proofs.VertexMapped.{one_apart}
use Rattle.dcel_records.proofs.Isolated.{isolated_gone}
use Rattle.dcel_records.proofs.Marked.{marked_gone, marked_relinked}
use Rattle.dcel_records.proofs.records.Records.remove_vertex.Goals as goal

pub leave_face-requires-clause-chained : goal.leave_face-requires-clause-chained
leave_face-requires-clause-chained c = c.self.invariant.faces.bare

pub leave_face-requires-clause-has : goal.leave_face-requires-clause-has
leave_face-requires-clause-has c = vertex_key c.self.inside.vertices c.self.inside.darts _ (graph_seen c.self.inside _ c.self.view_is) c.args.v c.requires.vertex

pub leave_face-requires-clause-counted : goal.leave_face-requires-clause-counted
leave_face-requires-clause-counted c = c.self.invariant.isolated

pub remove-vertex-requires : goal.remove-vertex-requires
remove-vertex-requires c =
    vertex_there c.self.inside.vertices c.leave_face.new.vertices c.self.inside.faces c.leave_face.new.faces c.leave_face.ensures.left.kept c.args.v.0
    (vertex_key c.self.inside.vertices c.self.inside.darts _ (graph_seen c.self.inside _ c.self.view_is) c.args.v c.requires.vertex)

pub overflow_sub-self : goal.overflow_sub-self
overflow_sub-self c =
    let k = (graph_sound c.self.inside.vertices c.leave_face.new.vertices c.self.inside.darts c.leave_face.ensures.left.kept.rests _ c.self.invariant.graph).counted in
    let g = pins_gone c.leave_face.new.vertices c.remove-vertex.new.self c.args.v.0 c.remove-vertex.result c.remove-vertex.ensures.value c.remove-vertex.ensures.updates in
    let o = ap one_if c.if-vertex.true in
    omega arith

pub invariant_of-self : goal.invariant_of-self
invariant_of-self c = record {
  graph = record {
    rows = gone_kept c.leave_face.new.vertices c.self.inside.darts _
        (graph_left c.self.inside.vertices c.leave_face.new.vertices c.self.inside.darts c.leave_face.ensures.left.kept.rests _ (graph_seen c.self.inside _ c.self.view_is))
        (graph_sound c.self.inside.vertices c.leave_face.new.vertices c.self.inside.darts c.leave_face.ensures.left.kept.rests _ c.self.invariant.graph).rows _ c.args.v c.requires.bare
        c.remove-vertex.ensures.updates;
    mapped = c.take.ensures.map c.args.v _ _ (graph_sound c.self.inside.vertices c.leave_face.new.vertices c.self.inside.darts c.leave_face.ensures.left.kept.rests _ c.self.invariant.graph).mapped
        (one_apart c.remove-vertex.new.self c.leave_face.new.vertices c.args.v.0 c.remove-vertex.result c.remove-vertex.ensures.updates.changed c.remove-vertex.ensures.value (λ n ne. sym (c.remove-vertex.ensures.updates.others n ne)));
    counted =
        let k = (graph_sound c.self.inside.vertices c.leave_face.new.vertices c.self.inside.darts c.leave_face.ensures.left.kept.rests _ c.self.invariant.graph).counted in
        let g = pins_gone c.leave_face.new.vertices c.remove-vertex.new.self c.args.v.0 c.remove-vertex.result c.remove-vertex.ensures.value c.remove-vertex.ensures.updates in
        let o = ap one_if c.if-vertex.true in
        omega arith;
  };
  faces = gone_sound c.self.inside _ c.self.view_is c.self.invariant.faces c.args.v c.leave_face.new.vertices c.leave_face.new.faces c.leave_face.ensures.left c.remove-vertex.new.self c.remove-vertex.ensures.updates;
  vertex_room = room_less c.self.inside.vertex_room c.self.inside.vertices c.remove-vertex.new.self c.self.invariant.vertex_room (c.remove-vertex.ensures.len ∙ c.leave_face.ensures.left.kept.len)
      (c.remove-vertex.ensures.capacity ∙ c.leave_face.ensures.left.kept.capacity);
  cycle_room = c.self.invariant.cycle_room;
  on_cycles = c.self.invariant.on_cycles;
  marked = marked_gone c.leave_face.new.vertices c.remove-vertex.new.self c.self.inside.darts _
      (graph_left c.self.inside.vertices c.leave_face.new.vertices c.self.inside.darts c.leave_face.ensures.left.kept.rests _ (graph_seen c.self.inside _ c.self.view_is)) c.args.v
      c.requires.bare c.remove-vertex.ensures.updates
      (marked_relinked c.self.inside.vertices c.leave_face.new.vertices c.self.inside.darts c.leave_face.ensures.left.kept.rests c.self.invariant.marked);
  moved = c.self.invariant.moved;
  isolated = c.leave_face.ensures.counted
      ∙ isolated_gone c.self.inside.vertices c.leave_face.new.vertices c.self.inside.faces c.leave_face.new.faces c.args.v.0 c.leave_face.ensures.left c.remove-vertex.new.self
      c.remove-vertex.ensures.updates;
  keys = c.self.invariant.keys;
}

pub invariant_of-self-else-vertex : goal.invariant_of-self-else-vertex
invariant_of-self-else-vertex c = record {
  graph = record {
    rows = gone_kept c.leave_face.new.vertices c.self.inside.darts _
        (graph_left c.self.inside.vertices c.leave_face.new.vertices c.self.inside.darts c.leave_face.ensures.left.kept.rests _ (graph_seen c.self.inside _ c.self.view_is))
        (graph_sound c.self.inside.vertices c.leave_face.new.vertices c.self.inside.darts c.leave_face.ensures.left.kept.rests _ c.self.invariant.graph).rows _ c.args.v c.requires.bare
        c.remove-vertex.ensures.updates;
    mapped = c.take.ensures.map c.args.v _ _ (graph_sound c.self.inside.vertices c.leave_face.new.vertices c.self.inside.darts c.leave_face.ensures.left.kept.rests _ c.self.invariant.graph).mapped
        (one_apart c.remove-vertex.new.self c.leave_face.new.vertices c.args.v.0 c.remove-vertex.result c.remove-vertex.ensures.updates.changed c.remove-vertex.ensures.value (λ n ne. sym (c.remove-vertex.ensures.updates.others n ne)));
    counted =
        let k = (graph_sound c.self.inside.vertices c.leave_face.new.vertices c.self.inside.darts c.leave_face.ensures.left.kept.rests _ c.self.invariant.graph).counted in
        let g = pins_gone c.leave_face.new.vertices c.remove-vertex.new.self c.args.v.0 c.remove-vertex.result c.remove-vertex.ensures.value c.remove-vertex.ensures.updates in
        let o = ap one_if c.if-vertex.false in
        omega arith;
  };
  faces = gone_sound c.self.inside _ c.self.view_is c.self.invariant.faces c.args.v c.leave_face.new.vertices c.leave_face.new.faces c.leave_face.ensures.left c.remove-vertex.new.self c.remove-vertex.ensures.updates;
  vertex_room = room_less c.self.inside.vertex_room c.self.inside.vertices c.remove-vertex.new.self c.self.invariant.vertex_room (c.remove-vertex.ensures.len ∙ c.leave_face.ensures.left.kept.len)
      (c.remove-vertex.ensures.capacity ∙ c.leave_face.ensures.left.kept.capacity);
  cycle_room = c.self.invariant.cycle_room;
  on_cycles = c.self.invariant.on_cycles;
  marked = marked_gone c.leave_face.new.vertices c.remove-vertex.new.self c.self.inside.darts _
      (graph_left c.self.inside.vertices c.leave_face.new.vertices c.self.inside.darts c.leave_face.ensures.left.kept.rests _ (graph_seen c.self.inside _ c.self.view_is)) c.args.v
      c.requires.bare c.remove-vertex.ensures.updates
      (marked_relinked c.self.inside.vertices c.leave_face.new.vertices c.self.inside.darts c.leave_face.ensures.left.kept.rests c.self.invariant.marked);
  moved = c.self.invariant.moved;
  isolated = c.leave_face.ensures.counted
      ∙ isolated_gone c.self.inside.vertices c.leave_face.new.vertices c.self.inside.faces c.leave_face.new.faces c.args.v.0 c.leave_face.ensures.left c.remove-vertex.new.self
      c.remove-vertex.ensures.updates;
  keys = c.self.invariant.keys;
}

pub returns-then-vertex-clause-graph : goal.returns-then-vertex-clause-graph
returns-then-vertex-clause-graph c =
    gone_graph c.leave_face.new.vertices c.self.inside.darts _
    (graph_left c.self.inside.vertices c.leave_face.new.vertices c.self.inside.darts c.leave_face.ensures.left.kept.rests _ (graph_seen c.self.inside _ c.self.view_is)) _ c.args.v
    c.remove-vertex.ensures.updates

pub returns-then-vertex-clause-tables : goal.returns-then-vertex-clause-tables
returns-then-vertex-clause-tables c =
    gone_tables c.self.inside _ c.self.view_is c.self.invariant.faces c.args.v c.leave_face.new.vertices c.leave_face.new.faces c.leave_face.ensures.left c.remove-vertex.new.self
    c.remove-vertex.ensures.updates

pub returns-then-vertex-clause-lists : goal.returns-then-vertex-clause-lists
returns-then-vertex-clause-lists c =
    lists_after c.self.inside _ c.self.view_is c.remove-vertex.new.self c.self.inside.cycles c.leave_face.new.faces (vertex_unlisted c.args.v)
    (gone_lists c.self.inside _ c.self.view_is c.self.invariant.faces c.args.v c.leave_face.new.vertices c.leave_face.new.faces c.leave_face.ensures.left c.remove-vertex.new.self c.remove-vertex.ensures.updates)

pub returns-then-vertex-clause-spare_faces : goal.returns-then-vertex-clause-spare_faces
returns-then-vertex-clause-spare_faces c =
    let s = ap (λ v. v.faces.spare_cycles) c.self.view_is in
    let t = ap (λ v. v.faces.spare_faces) c.self.view_is in
    let p = ap (λ v. v.faces.capacity_of_cycles) c.self.view_is in
    let q = ap (λ v. v.faces.capacity_of_faces) c.self.view_is in
    let d = c.leave_face.ensures.left.kept.faces_len in
    let e = c.leave_face.ensures.left.kept.faces_capacity in
    record { of_cycles = omega arith; of_faces = omega arith; capacity_of_cycles = omega arith; capacity_of_faces = omega arith }

pub returns-else-vertex-clause-graph : goal.returns-else-vertex-clause-graph
returns-else-vertex-clause-graph c =
    gone_graph c.leave_face.new.vertices c.self.inside.darts _
    (graph_left c.self.inside.vertices c.leave_face.new.vertices c.self.inside.darts c.leave_face.ensures.left.kept.rests _ (graph_seen c.self.inside _ c.self.view_is)) _ c.args.v
    c.remove-vertex.ensures.updates

pub returns-else-vertex-clause-tables : goal.returns-else-vertex-clause-tables
returns-else-vertex-clause-tables c =
    gone_tables c.self.inside _ c.self.view_is c.self.invariant.faces c.args.v c.leave_face.new.vertices c.leave_face.new.faces c.leave_face.ensures.left c.remove-vertex.new.self
    c.remove-vertex.ensures.updates

pub returns-else-vertex-clause-lists : goal.returns-else-vertex-clause-lists
returns-else-vertex-clause-lists c =
    lists_after c.self.inside _ c.self.view_is c.remove-vertex.new.self c.self.inside.cycles c.leave_face.new.faces (vertex_unlisted c.args.v)
    (gone_lists c.self.inside _ c.self.view_is c.self.invariant.faces c.args.v c.leave_face.new.vertices c.leave_face.new.faces c.leave_face.ensures.left c.remove-vertex.new.self c.remove-vertex.ensures.updates)

pub returns-else-vertex-clause-spare_faces : goal.returns-else-vertex-clause-spare_faces
returns-else-vertex-clause-spare_faces c =
    let s = ap (λ v. v.faces.spare_cycles) c.self.view_is in
    let t = ap (λ v. v.faces.spare_faces) c.self.view_is in
    let p = ap (λ v. v.faces.capacity_of_cycles) c.self.view_is in
    let q = ap (λ v. v.faces.capacity_of_faces) c.self.view_is in
    let d = c.leave_face.ensures.left.kept.faces_len in
    let e = c.leave_face.ensures.left.kept.faces_capacity in
    record { of_cycles = omega arith; of_faces = omega arith; capacity_of_cycles = omega arith; capacity_of_faces = omega arith }
