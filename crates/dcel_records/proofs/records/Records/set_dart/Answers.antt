use Rattle.dcel_records.proofs.Rooms.{room_same}
use Rattle.std.proofs.Common.{ap, refl, arith}
use Rattle.dcel_records.specs.RecordsView.{graph_part}
use Rattle.dcel_records.specs.ListChanges.{dart_listed}
use Rattle.dcel_records.proofs.Relinked.{lists_after}
use Rattle.dcel_records.proofs.Removing.{len_written}
use Rattle.dcel_records.proofs.CyclesWritten.{cycle_key, dart_sound, dart_tables, dart_lists}
use Rattle.dcel_records.proofs.OnCycles.{on_written}
use Rattle.dcel_records.proofs.records.Records.set_dart.Goals as goal

pub index_mut-requires : goal.index_mut-requires
index_mut-requires c = cycle_key c.self.inside _ c.self.view_is c.self.invariant.faces c.args.c c.requires

pub invariant_of-self : goal.invariant_of-self
invariant_of-self c = record {
  graph = c.self.invariant.graph;
  faces = dart_sound c.self.inside _ c.self.view_is c.self.invariant.faces c.args.c.0 c.index_mut.result.now _ c.index_mut.ensures.value refl refl;
  vertex_room = c.self.invariant.vertex_room;
  cycle_room = room_same c.self.inside.cycle_room c.self.inside.cycles _ c.self.invariant.cycle_room (len_written c.self.inside.cycles _ _ _ c.index_mut.ensures.value) refl;
  on_cycles = on_written c.self.inside.darts c.self.inside.cycles c.args.c.0 c.index_mut.result.now _ c.index_mut.ensures.value refl c.self.invariant.on_cycles;
  marked = c.self.invariant.marked;
  moved = c.self.invariant.moved;
  isolated = c.self.invariant.isolated;
  keys = c.self.invariant.keys;
}

pub returns-clause-tables : goal.returns-clause-tables
returns-clause-tables c = dart_tables c.self.inside _ c.self.view_is c.self.invariant.faces c.args.c.0 c.index_mut.result.now _ c.index_mut.ensures.value refl refl

pub returns-clause-lists : goal.returns-clause-lists
returns-clause-lists c =
    lists_after c.self.inside _ c.self.view_is c.self.inside.vertices _ c.self.inside.faces (dart_listed c.args.c c.args.dart)
    (dart_lists c.self.inside _ c.self.view_is c.self.invariant.faces c.args.c.0 c.index_mut.result.now _ c.index_mut.ensures.value refl refl)

pub returns-clause-spare : goal.returns-clause-spare
returns-clause-spare c =
    let s = ap (λ v. v.faces.spare_cycles) c.self.view_is in
    let t = ap (λ v. v.faces.spare_faces) c.self.view_is in
    let p = ap (λ v. v.faces.capacity_of_cycles) c.self.view_is in
    let q = ap (λ v. v.faces.capacity_of_faces) c.self.view_is in
    let a = len_written c.self.inside.cycles c.args.c.0 c.index_mut.result.now (record { kind = c.index_mut.result.now.kind; dart = c.args.dart; place = c.index_mut.result.now.place; area = c.index_mut.result.now.area }) c.index_mut.ensures.value in
    record { of_cycles = omega arith; of_faces = omega arith; capacity_of_cycles = omega arith; capacity_of_faces = omega arith }

pub returns-clause-graph : goal.returns-clause-graph
returns-clause-graph c = ap graph_part c.self.view_is
