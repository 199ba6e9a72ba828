use Rattle.dcel_records.proofs.Removing.{len_written}
use Rattle.dcel_records.proofs.Rooms.{room_same}
use Rattle.dcel_records.proofs.Holding.{graph_seen}
use Rattle.dcel_records.proofs.FacesKept.{faces_sound, faces_column, column_written, nodes_written}
use Rattle.std.proofs.Common.{refl, subst, ◌∙◌}
use Rattle.slab.specs.Slab.{get}
use Rattle.slab_laws.specs.declared.names.CycleId.{CycleId}
use Rattle.dcel_records.specs.Areas.{HasParts}
use Rattle.dcel_records.proofs.Holding.{dart_key, vertex_key, source_is, twin_key}
use Rattle.dcel_records.proofs.Removing.{source_key}
use Rattle.dcel_records.proofs.Writing.{source_graph, source_kept}
use Rattle.dcel_records.proofs.Pins.{pins_kept}
use Rattle.dcel_records.proofs.OnCycles.{on_write, parts_key}
use Rattle.dcel_records.proofs.Widened.{faces_widened, on_widened, view_widened, widened_has}
use Rattle.dcel_records.proofs.Isolated.{isolated_same}
use Rattle.dcel_records.proofs.Marked.{marked_moved}
use Rattle.dcel_records.proofs.TwinTold.{graphs_told, cycle_told, cycles_told, view_told}
use Rattle.dcel_records.proofs.records.Records.move_source.Goals as goal

pub index-requires : goal.index-requires
index-requires c = dart_key c.self.inside.vertices c.self.inside.darts _ (graph_seen c.self.inside _ c.self.view_is) c.args.d c.requires.dart

pub index-requires-2 : goal.index-requires-2
index-requires-2 c = dart_key c.self.inside.vertices c.self.inside.darts _ (graph_seen c.self.inside _ c.self.view_is) c.args.d c.requires.dart

pub index-requires-3 : goal.index-requires-3
index-requires-3 c = dart_key c.self.inside.vertices c.self.inside.darts _ (graph_seen c.self.inside _ c.self.view_is) c.args.d c.requires.dart

pub widen-requires : goal.widen-requires
widen-requires c = parts_key (get c.self.inside.cycles c.index-3.result.now.cycle.0) c.index-3.result.now.parts (c.self.invariant.on_cycles c.args.d.0 c.index-3.result.now c.index-3.ensures)

pub index-requires-4 : goal.index-requires-4
index-requires-4 c = vertex_key c.self.inside.vertices c.self.inside.darts _ (graph_seen c.self.inside _ c.self.view_is) c.args.w c.requires.vertex

pub set_target_parts-requires : goal.set_target_parts-requires
set_target_parts-requires c = twin_key c.self.inside.vertices c.self.inside.darts _ (graph_seen c.self.inside _ c.self.view_is) c.self.invariant.graph.rows c.args.d _ c.requires.dart c.index-2.ensures

pub index_mut-requires : goal.index_mut-requires
index_mut-requires c = source_key c.self.inside.vertices c.self.inside.darts _ (graph_seen c.self.inside _ c.self.view_is) c.self.invariant.graph.rows c.args.d _ c.requires.dart c.index.ensures

pub invariant_of-self : goal.invariant_of-self
invariant_of-self c =
    let vs = c.self.inside.vertices in
    let es = c.set_target_parts.new.darts in
    let cs = c.widen.new.cycles in
    let n = c.index-3.result.now.cycle.0 in
    let p = c.whole_parts-parts.result in
    let sound = faces_widened c.self.inside.cycles cs n p c.widen.ensures.row vs c.self.inside.faces c.self.invariant.faces in
    let is = view_told (record c.self.inside { cycles = cs }) es c.index-2.result.now.twin.0 p c.set_target_parts.ensures.row c.set_target_parts.ensures.len c.set_target_parts.ensures.capacity
    ∙ view_widened c.self.inside cs n p c.widen.ensures.row c.self.invariant.faces c.widen.ensures.len ∙ c.self.view_is in
    let seen = graph_seen (record c.self.inside { darts = es; cycles = cs }) _ is in
    let told = graphs_told vs c.self.inside.darts es c.index-2.result.now.twin.0 c.whole_parts-parts.result c.set_target_parts.ensures.row _ _ c.self.invariant.graph in
    let left = source_is vs c.self.inside.darts _ (graph_seen c.self.inside _ c.self.view_is) c.args.d _ c.index.ensures in
    record {
      graph = pins_kept vs es _ _ seen told _ _ _ (source_graph vs es _ seen c.args.d c.args.w _ _ _ _ _ c.index_mut-dart.ensures.value c.index_mut.ensures.value) refl
          (source_kept vs es _ seen told.rows c.args.d c.args.w _ _ c.args.rest c.requires.out.0 _ _ c.requires.dart c.index_mut-dart.ensures.value c.index_mut.ensures.value left c.requires.rest.0 c.requires.rest.1 c.requires.out.1);
      faces = faces_sound (record c.self.inside { darts = es; cycles = cs }) c.args.self.now is sound _ (nodes_written vs _ _ _ c.index_mut.ensures.value refl);
      vertex_room = room_same c.self.inside.vertex_room vs _ c.self.invariant.vertex_room (len_written vs _ _ _ c.index_mut.ensures.value) refl;
      cycle_room = room_same c.self.inside.cycle_room c.self.inside.cycles cs c.self.invariant.cycle_room c.widen.ensures.len c.widen.ensures.capacity;
      on_cycles = on_write es cs c.args.d.0 c.index_mut-dart.result.now _ c.index_mut-dart.ensures.value
          (subst (λ (x : CycleId). HasParts (get cs x.0) p)
          (cycle_told vs c.self.inside.darts es c.index-2.result.now.twin.0 p c.set_target_parts.ensures.row c.args.d.0 c.index-3.result.now c.index_mut-dart.result.now c.index-3.ensures
          c.index_mut-dart.ensures.value)
          (widened_has c.self.inside.cycles cs n p c.widen.ensures.row
          (parts_key (get c.self.inside.cycles n) c.index-3.result.now.parts (c.self.invariant.on_cycles c.args.d.0 c.index-3.result.now c.index-3.ensures))))
          (cycles_told vs c.self.inside.darts es c.index-2.result.now.twin.0 p c.set_target_parts.ensures.row cs (on_widened c.self.inside.cycles cs n p c.widen.ensures.row c.self.inside.darts c.self.invariant.on_cycles));
      marked = marked_moved vs c.self.inside.darts es _ (graph_seen c.self.inside _ c.self.view_is) c.self.invariant.graph.rows c.args.d _ _ c.index-2.result.now c.index_mut-dart.result.now _ _ _
          c.index-2.ensures c.set_target_parts.ensures.row c.index_mut-dart.ensures.value refl refl c.index-4.ensures c.whole_parts-parts.ensures c.index_mut.ensures.value
          c.self.invariant.marked;
      moved = c.self.invariant.moved;
      isolated = c.self.invariant.isolated ∙ isolated_same vs _ (nodes_written vs _ _ _ c.index_mut.ensures.value refl);
      keys = c.self.invariant.keys;
    }

pub returns-clause-graph : goal.returns-clause-graph
returns-clause-graph c =
    let vs = c.self.inside.vertices in
    let es = c.set_target_parts.new.darts in
    let cs = c.widen.new.cycles in
    let n = c.index-3.result.now.cycle.0 in
    let p = c.whole_parts-parts.result in
    let sound = faces_widened c.self.inside.cycles cs n p c.widen.ensures.row vs c.self.inside.faces c.self.invariant.faces in
    let is = view_told (record c.self.inside { cycles = cs }) es c.index-2.result.now.twin.0 p c.set_target_parts.ensures.row c.set_target_parts.ensures.len c.set_target_parts.ensures.capacity
    ∙ view_widened c.self.inside cs n p c.widen.ensures.row c.self.invariant.faces c.widen.ensures.len ∙ c.self.view_is in
    let seen = graph_seen (record c.self.inside { darts = es; cycles = cs }) _ is in
    source_graph vs es _ seen c.args.d c.args.w _ _ _ _ _ c.index_mut-dart.ensures.value c.index_mut.ensures.value

pub returns-clause-faces : goal.returns-clause-faces
returns-clause-faces c =
    let vs = c.self.inside.vertices in
    let es = c.set_target_parts.new.darts in
    let cs = c.widen.new.cycles in
    let n = c.index-3.result.now.cycle.0 in
    let p = c.whole_parts-parts.result in
    let sound = faces_widened c.self.inside.cycles cs n p c.widen.ensures.row vs c.self.inside.faces c.self.invariant.faces in
    let is = view_told (record c.self.inside { cycles = cs }) es c.index-2.result.now.twin.0 p c.set_target_parts.ensures.row c.set_target_parts.ensures.len c.set_target_parts.ensures.capacity
    ∙ view_widened c.self.inside cs n p c.widen.ensures.row c.self.invariant.faces c.widen.ensures.len ∙ c.self.view_is in
    faces_column (record c.self.inside { darts = es; cycles = cs }) c.args.self.now is sound _ (nodes_written vs _ _ _ c.index_mut.ensures.value refl) (λ xs. xs) _ (column_written es c.args.d.0 _ _ c.index_mut-dart.ensures.value refl)
