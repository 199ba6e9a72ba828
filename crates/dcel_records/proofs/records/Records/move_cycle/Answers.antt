use Rattle.dcel_records.proofs.Rooms.{room_same}
use Rattle.std.proofs.Common.{ap, arith, ◌∙◌}
use Rattle.dcel_records.specs.RecordsView.{graph_part}
use Rattle.slab_laws.specs.View.{kind_in}
use Rattle.dcel_records.specs.ListChanges.{cycle_relisted}
use Rattle.dcel_records.proofs.Relinked.{lists_after, face_key}
use Rattle.dcel_records.proofs.CyclesWritten.{areas_stay, cycle_key, cycle_node, cycle_there, face_there, kind_found, moved_sound, moved_tables, moved_lists}
use Rattle.slab.specs.Slab.{get}
use Rattle.dcel_records.proofs.OnCycles.{on_kept, parts_same}
use Rattle.dcel_records.proofs.records.Records.move_cycle.Goals as goal

pub unlink-requires-clause-chained : goal.unlink-requires-clause-chained
unlink-requires-clause-chained c = c.self.invariant.faces.cycles

pub unlink-requires-clause-has : goal.unlink-requires-clause-has
unlink-requires-clause-has c = cycle_node c.self.inside _ c.self.view_is c.self.invariant.faces c.args.c c.requires.cycle

pub link_first-requires-clause-chained : goal.link_first-requires-clause-chained
link_first-requires-clause-chained c = c.unlink.ensures.chained

pub link_first-requires-clause-has : goal.link_first-requires-clause-has
link_first-requires-clause-has c =
    cycle_there c.self.inside.cycles c.unlink.new.rows c.self.inside.faces c.unlink.new.faces c.unlink.ensures.kept c.args.c.0
    (cycle_key c.self.inside _ c.self.view_is c.self.invariant.faces c.args.c c.requires.cycle)

pub link_first-requires-clause-face : goal.link_first-requires-clause-face
link_first-requires-clause-face c = face_there c.self.inside.cycles c.unlink.new.rows c.self.inside.faces c.unlink.new.faces c.unlink.ensures.kept c.args.face.0 (face_key c.self.inside _ c.self.view_is c.args.face c.requires.face)

pub invariant_of-self : goal.invariant_of-self
invariant_of-self c = record {
  graph = c.self.invariant.graph;
  faces = moved_sound c.self.inside _ c.self.view_is c.self.invariant.faces c.args.c.0 c.unlink.new.rows c.unlink.new.faces c.unlink.ensures c.args.face c.link_first.new.rows c.link_first.new.faces c.link_first.ensures;
  vertex_room = c.self.invariant.vertex_room;
  cycle_room = room_same c.self.inside.cycle_room c.self.inside.cycles c.link_first.new.rows c.self.invariant.cycle_room (c.link_first.ensures.kept.len ∙ c.unlink.ensures.kept.len)
      (c.link_first.ensures.kept.capacity ∙ c.unlink.ensures.kept.capacity);
  on_cycles = on_kept c.self.inside.darts c.self.inside.cycles c.link_first.new.rows
      (λ n p. parts_same (get c.self.inside.cycles n) (get c.link_first.new.rows n)
      (areas_stay c.unlink.new.rows c.link_first.new.rows c.unlink.new.faces c.link_first.new.faces c.link_first.ensures.kept n
      ∙ areas_stay c.self.inside.cycles c.unlink.new.rows c.self.inside.faces c.unlink.new.faces c.unlink.ensures.kept n) p)
      c.self.invariant.on_cycles;
  marked = c.self.invariant.marked;
  moved = c.self.invariant.moved;
  isolated = c.self.invariant.isolated;
  keys = c.self.invariant.keys;
}

pub returns-clause-tables : goal.returns-clause-tables
returns-clause-tables c =
    moved_tables c.self.inside _ c.self.view_is c.self.invariant.faces c.args.c.0 c.unlink.new.rows c.unlink.new.faces c.unlink.ensures c.args.face c.link_first.new.rows
    c.link_first.new.faces c.link_first.ensures (kind_in c.args.self.now.faces.tables c.args.c)
    (kind_found c.self.inside _ c.self.view_is c.self.invariant.faces c.args.c c.requires.cycle)

pub returns-clause-lists : goal.returns-clause-lists
returns-clause-lists c =
    lists_after c.self.inside _ c.self.view_is c.self.inside.vertices c.link_first.new.rows c.link_first.new.faces (cycle_relisted c.args.c c.args.face)
    (moved_lists c.self.inside _ c.self.view_is c.self.invariant.faces c.args.c.0 c.unlink.new.rows c.unlink.new.faces c.unlink.ensures c.args.face c.link_first.new.rows c.link_first.new.faces c.link_first.ensures)

pub returns-clause-spare : goal.returns-clause-spare
returns-clause-spare c =
    let s = ap (λ v. v.faces.spare_cycles) c.self.view_is in
    let t = ap (λ v. v.faces.spare_faces) c.self.view_is in
    let p = ap (λ v. v.faces.capacity_of_cycles) c.self.view_is in
    let q = ap (λ v. v.faces.capacity_of_faces) c.self.view_is in
    let a = c.unlink.ensures.kept.len in
    let b = c.unlink.ensures.kept.capacity in
    let d = c.unlink.ensures.kept.faces_len in
    let e = c.unlink.ensures.kept.faces_capacity in
    let a' = c.link_first.ensures.kept.len in
    let b' = c.link_first.ensures.kept.capacity in
    let d' = c.link_first.ensures.kept.faces_len in
    let e' = c.link_first.ensures.kept.faces_capacity in
    record { of_cycles = omega arith; of_faces = omega arith; capacity_of_cycles = omega arith; capacity_of_faces = omega arith }

pub returns-clause-graph : goal.returns-clause-graph
returns-clause-graph c = ap graph_part c.self.view_is
