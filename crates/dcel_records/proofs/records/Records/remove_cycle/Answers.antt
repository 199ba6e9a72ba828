use Rattle.slab.specs.Slab.{get}
use Rattle.dcel_records.proofs.Rooms.{room_less}
use Rattle.std.proofs.Common.{ap, arith, ◌∙◌}
use Rattle.dcel_records.specs.RecordsView.{graph_part}
use Rattle.dcel_records.specs.ListChanges.{cycle_unlisted}
use Rattle.dcel_records.proofs.Relinked.{lists_after}
use Rattle.dcel_records.proofs.CyclesWritten.{areas_stay, cycle_key, cycle_node, cycle_there, fewer_sound, fewer_tables, fewer_lists}
use Rattle.dcel_records.proofs.OnCycles.{on_others, on_kept, none_on, parts_same}
use Rattle.dcel_records.proofs.records.Records.remove_cycle.Goals as goal

pub unlink-requires-clause-chained : goal.unlink-requires-clause-chained
unlink-requires-clause-chained c = c.self.invariant.faces.cycles

pub unlink-requires-clause-has : goal.unlink-requires-clause-has
unlink-requires-clause-has c = cycle_node c.self.inside _ c.self.view_is c.self.invariant.faces c.args.c c.requires.cycle

pub remove-requires : goal.remove-requires
remove-requires c = cycle_there c.self.inside.cycles c.unlink.new.rows c.self.inside.faces c.unlink.new.faces c.unlink.ensures.kept c.args.c.0 (cycle_key c.self.inside _ c.self.view_is c.self.invariant.faces c.args.c c.requires.cycle)

pub invariant_of-self : goal.invariant_of-self
invariant_of-self c = record {
  graph = c.self.invariant.graph;
  faces = fewer_sound c.self.inside _ c.self.view_is c.self.invariant.faces c.args.c.0 c.unlink.new.rows c.unlink.new.faces c.unlink.ensures c.remove.new.self c.remove.ensures.updates;
  vertex_room = c.self.invariant.vertex_room;
  cycle_room = room_less c.self.inside.cycle_room c.self.inside.cycles c.remove.new.self c.self.invariant.cycle_room (c.remove.ensures.len ∙ c.unlink.ensures.kept.len) (c.remove.ensures.capacity ∙ c.unlink.ensures.kept.capacity);
  on_cycles = on_others c.self.inside.darts c.unlink.new.rows c.remove.new.self c.args.c.0 c.remove.ensures.updates (none_on c.self.inside _ c.self.view_is c.args.c c.requires.off)
      (on_kept c.self.inside.darts c.self.inside.cycles c.unlink.new.rows
      (λ n p. parts_same (get c.self.inside.cycles n) (get c.unlink.new.rows n) (areas_stay c.self.inside.cycles c.unlink.new.rows c.self.inside.faces c.unlink.new.faces c.unlink.ensures.kept n) p)
      c.self.invariant.on_cycles);
  marked = c.self.invariant.marked;
  moved = c.self.invariant.moved;
  isolated = c.self.invariant.isolated;
  keys = c.self.invariant.keys;
}

pub returns-clause-tables : goal.returns-clause-tables
returns-clause-tables c = fewer_tables c.self.inside _ c.self.view_is c.self.invariant.faces c.args.c.0 c.unlink.new.rows c.unlink.new.faces c.unlink.ensures c.remove.new.self c.remove.ensures.updates

pub returns-clause-lists : goal.returns-clause-lists
returns-clause-lists c =
    lists_after c.self.inside _ c.self.view_is c.self.inside.vertices c.remove.new.self c.unlink.new.faces (cycle_unlisted c.args.c)
    (fewer_lists c.self.inside _ c.self.view_is c.self.invariant.faces c.args.c.0 c.unlink.new.rows c.unlink.new.faces c.unlink.ensures c.remove.new.self c.remove.ensures.updates)

pub returns-clause-spare : goal.returns-clause-spare
returns-clause-spare c =
    let s = ap (λ v. v.faces.spare_cycles) c.self.view_is in
    let t = ap (λ v. v.faces.spare_faces) c.self.view_is in
    let p = ap (λ v. v.faces.capacity_of_cycles) c.self.view_is in
    let q = ap (λ v. v.faces.capacity_of_faces) c.self.view_is in
    let a = c.unlink.ensures.kept.len in
    let b = c.unlink.ensures.kept.capacity in
    let d = c.unlink.ensures.kept.faces_len in
    let e = c.unlink.ensures.kept.faces_capacity in
    let i = c.remove.ensures.len in
    let j = c.remove.ensures.capacity in
    let r = c.remove.ensures.room in
    record { of_cycles = omega arith; of_faces = omega arith; capacity_of_cycles = omega arith; capacity_of_faces = omega arith }

pub returns-clause-graph : goal.returns-clause-graph
returns-clause-graph c = ap graph_part c.self.view_is
