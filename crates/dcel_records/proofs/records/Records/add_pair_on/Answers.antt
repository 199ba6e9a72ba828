use Rattle.dcel_records.proofs.Rooms.{room_same}
use Rattle.dcel_records.proofs.Holding.{graph_seen}
use Rattle.arr_notes.specs.NamedRows.{put}
use Rattle.dcel_records.proofs.FacesKept.{faces_sound, faces_column, column_more, nodes_given}
use Rattle.std.proofs.Common.{refl, ◌∙◌}
use Rattle.slab_laws.specs.View.{dart_id}
use Rattle.dcel_records.proofs.Holding.{vertex_key}
use Rattle.dcel_records.proofs.Adding.{offered_key, edge_written, written_kept, no_d, no_m}
use Rattle.dcel_records.proofs.Pins.{pins_kept}
use Rattle.dcel_records.proofs.OnCycles.{on_pair}
use Rattle.dcel_records.proofs.CyclesWritten.{cycle_key}
use Rattle.dcel_records.proofs.Isolated.{isolated_same}
use Rattle.dcel_records.proofs.Marked.{marked_pair}
use Rattle.dcel_records.proofs.TargetsKept.{targets_more, twins_there}
use Rattle.dcel_records.proofs.Widened.{faces_widened, on_widened, view_widened, widened_has, widened_kept, widened_key}
use Rattle.dcel_records.proofs.records.Records.add_pair_on.Goals as goal

pub index-requires : goal.index-requires
index-requires c = vertex_key c.self.inside.vertices c.self.inside.darts _ (graph_seen c.self.inside _ c.self.view_is) c.args.u c.requires.u

pub index-requires-2 : goal.index-requires-2
index-requires-2 c = vertex_key c.self.inside.vertices c.self.inside.darts _ (graph_seen c.self.inside _ c.self.view_is) c.args.v c.requires.v

pub widen-requires : goal.widen-requires
widen-requires c = cycle_key c.self.inside _ c.self.view_is c.self.invariant.faces c.args.cycle c.requires.cycle

pub widen-requires-2 : goal.widen-requires-2
widen-requires-2 c =
    widened_key c.self.inside.cycles c.widen.new.cycles c.args.cycle.0 c.whole_parts-source_parts.result c.widen.ensures.row c.args.cycle.0
    (cycle_key c.self.inside _ c.self.view_is c.self.invariant.faces c.args.cycle c.requires.cycle)

pub give_out-requires : goal.give_out-requires
give_out-requires c = vertex_key c.self.inside.vertices c.self.inside.darts _ (graph_seen c.self.inside _ c.self.view_is) c.args.u c.requires.u

pub give_out-requires-2 : goal.give_out-requires-2
give_out-requires-2 c =
    offered_key c.self.inside.vertices c.give_out.new.vertices c.args.u (dart_id c.insert_reserved-d.result) c.give_out.ensures.row c.args.v.0
    (vertex_key c.self.inside.vertices c.self.inside.darts _ (graph_seen c.self.inside _ c.self.view_is) c.args.v c.requires.v)

pub invariant_of-self : goal.invariant_of-self
invariant_of-self c =
    let es = c.widen.new.cycles in
    let os = c.widen-2.new.cycles in
    let n = c.args.cycle.0 in
    let ps = c.whole_parts-source_parts.result in
    let qs = c.whole_parts-target_parts.result in
    let sound = faces_widened c.self.inside.cycles es n ps c.widen.ensures.row c.self.inside.vertices c.self.inside.faces c.self.invariant.faces in
    let sounder = faces_widened es os n qs c.widen-2.ensures.row c.self.inside.vertices c.self.inside.faces sound in
    let is = view_widened (record c.self.inside { cycles = es }) os n qs c.widen-2.ensures.row sound c.widen-2.ensures.len
    ∙ view_widened c.self.inside es n ps c.widen.ensures.row c.self.invariant.faces c.widen.ensures.len ∙ c.self.view_is in
    record {
      graph = pins_kept c.self.inside.vertices c.self.inside.darts _ _ (graph_seen c.self.inside _ c.self.view_is) c.self.invariant.graph _ _ _
          (edge_written c.self.inside.vertices c.self.inside.darts _ (graph_seen c.self.inside _ c.self.view_is) (dart_id c.insert_reserved-d.result) (dart_id c.insert_reserved-m.result) c.args.u c.args.v c.whole_parts-source_parts.result c.whole_parts-target_parts.result c.args.line c.args.cycle c.insert_reserved-d.new.self c.insert_reserved-m.new.self c.give_out.new.vertices c.give_out-2.new.vertices
          c.insert_reserved-d.ensures.was_vacant c.insert_reserved-m.ensures.was_vacant c.insert_reserved-d.ensures.updates c.insert_reserved-m.ensures.updates c.give_out.ensures.row c.give_out-2.ensures.row
          c.index_mut-dart.result.now c.index_mut-dart.ensures.value)
          refl
          (written_kept c.self.inside.vertices c.self.inside.darts _ (graph_seen c.self.inside _ c.self.view_is) (dart_id c.insert_reserved-d.result) (dart_id c.insert_reserved-m.result) c.args.u c.args.v c.whole_parts-source_parts.result c.whole_parts-target_parts.result c.args.line c.args.cycle c.insert_reserved-d.new.self c.insert_reserved-m.new.self c.give_out.new.vertices c.give_out-2.new.vertices
          c.insert_reserved-d.ensures.was_vacant c.insert_reserved-m.ensures.was_vacant c.insert_reserved-d.ensures.updates c.insert_reserved-m.ensures.updates c.give_out.ensures.row c.give_out-2.ensures.row
          c.self.invariant.graph.rows (vertex_key c.self.inside.vertices c.self.inside.darts _ (graph_seen c.self.inside _ c.self.view_is) c.args.u c.requires.u)
          (vertex_key c.self.inside.vertices c.self.inside.darts _ (graph_seen c.self.inside _ c.self.view_is) c.args.v c.requires.v) c.index_mut-dart.result.now
          c.index_mut-dart.ensures.value);
      faces = faces_sound (record c.self.inside { cycles = os }) c.args.self.now is sounder c.give_out-2.new.vertices
          (λ n. nodes_given (dart_id c.insert_reserved-m.result) c.give_out.new.vertices c.give_out-2.new.vertices c.args.v.0 c.give_out-2.ensures.row n
          ∙ nodes_given (dart_id c.insert_reserved-d.result) c.self.inside.vertices c.give_out.new.vertices c.args.u.0 c.give_out.ensures.row n);
      vertex_room = room_same c.self.inside.vertex_room c.self.inside.vertices c.give_out-2.new.vertices c.self.invariant.vertex_room (c.give_out-2.ensures.len ∙ c.give_out.ensures.len)
          (c.give_out-2.ensures.capacity ∙ c.give_out.ensures.capacity);
      cycle_room = room_same c.self.inside.cycle_room c.self.inside.cycles os c.self.invariant.cycle_room (c.widen-2.ensures.len ∙ c.widen.ensures.len) (c.widen-2.ensures.capacity ∙ c.widen.ensures.capacity);
      on_cycles = on_pair c.self.inside.darts c.insert_reserved-d.new.self c.insert_reserved-m.new.self os c.insert_reserved-d.result c.insert_reserved-m.result _ _ c.index_mut-dart.result.now _
          c.insert_reserved-d.ensures.updates c.insert_reserved-m.ensures.updates c.index_mut-dart.ensures.value refl refl refl
          (widened_kept es os n qs c.widen-2.ensures.row n ps (widened_has c.self.inside.cycles es n ps c.widen.ensures.row (cycle_key c.self.inside _ c.self.view_is c.self.invariant.faces c.args.cycle c.requires.cycle)))
          (widened_has es os n qs c.widen-2.ensures.row (widened_key c.self.inside.cycles es n ps c.widen.ensures.row n (cycle_key c.self.inside _ c.self.view_is c.self.invariant.faces c.args.cycle c.requires.cycle)))
          (on_widened es os n qs c.widen-2.ensures.row c.self.inside.darts (on_widened c.self.inside.cycles es n ps c.widen.ensures.row c.self.inside.darts c.self.invariant.on_cycles));
      marked = marked_pair c.self.inside.vertices c.give_out.new.vertices c.give_out-2.new.vertices c.self.inside.darts c.insert_reserved-d.new.self c.insert_reserved-m.new.self
          c.insert_reserved-d.result c.insert_reserved-m.result _ _ c.index_mut-dart.result.now _ _ _ c.index.ensures c.whole_parts-source_parts.ensures c.index-2.ensures
          c.whole_parts-target_parts.ensures c.insert_reserved-d.ensures.updates c.insert_reserved-m.ensures.updates c.index_mut-dart.ensures.value refl refl
          (dart_id c.insert_reserved-d.result) (dart_id c.insert_reserved-m.result) c.give_out.ensures.row c.give_out-2.ensures.row
          (targets_more c.self.inside.darts c.insert_reserved-d.new.self c.insert_reserved-m.new.self c.insert_reserved-d.result c.insert_reserved-m.result _ _ c.index_mut-dart.result.now _ c.insert_reserved-d.ensures.was_vacant c.insert_reserved-m.ensures.was_vacant c.insert_reserved-d.ensures.updates c.insert_reserved-m.ensures.updates c.index_mut-dart.ensures.value refl refl refl refl refl refl
          (twins_there c.self.inside.vertices c.self.inside.darts _ (graph_seen c.self.inside _ c.self.view_is) c.self.invariant.graph.rows))
          c.self.invariant.marked;
      moved = c.self.invariant.moved;
      isolated = c.self.invariant.isolated ∙ isolated_same c.self.inside.vertices c.give_out-2.new.vertices
          (λ n. nodes_given (dart_id c.insert_reserved-m.result) c.give_out.new.vertices c.give_out-2.new.vertices c.args.v.0 c.give_out-2.ensures.row n
          ∙ nodes_given (dart_id c.insert_reserved-d.result) c.self.inside.vertices c.give_out.new.vertices c.args.u.0 c.give_out.ensures.row n);
      keys = c.self.invariant.keys;
    }

pub returns-clause-dart : goal.returns-clause-dart
returns-clause-dart c =
    no_d c.self.inside.vertices c.self.inside.darts _ (graph_seen c.self.inside _ c.self.view_is) (dart_id c.insert_reserved-d.result) (dart_id c.insert_reserved-m.result) c.args.u
    c.args.v c.whole_parts-source_parts.result c.whole_parts-target_parts.result c.args.line c.args.cycle c.insert_reserved-d.new.self c.insert_reserved-m.new.self
    c.give_out.new.vertices c.give_out-2.new.vertices
    c.insert_reserved-d.ensures.was_vacant c.insert_reserved-m.ensures.was_vacant c.insert_reserved-d.ensures.updates c.insert_reserved-m.ensures.updates c.give_out.ensures.row c.give_out-2.ensures.row

pub returns-clause-twin : goal.returns-clause-twin
returns-clause-twin c =
    no_m c.self.inside.vertices c.self.inside.darts _ (graph_seen c.self.inside _ c.self.view_is) (dart_id c.insert_reserved-d.result) (dart_id c.insert_reserved-m.result) c.args.u
    c.args.v c.whole_parts-source_parts.result c.whole_parts-target_parts.result c.args.line c.args.cycle c.insert_reserved-d.new.self c.insert_reserved-m.new.self
    c.give_out.new.vertices c.give_out-2.new.vertices
    c.insert_reserved-d.ensures.was_vacant c.insert_reserved-m.ensures.was_vacant c.insert_reserved-d.ensures.updates c.insert_reserved-m.ensures.updates c.give_out.ensures.row c.give_out-2.ensures.row

pub returns-clause-graph : goal.returns-clause-graph
returns-clause-graph c =
    edge_written c.self.inside.vertices c.self.inside.darts _ (graph_seen c.self.inside _ c.self.view_is) (dart_id c.insert_reserved-d.result) (dart_id c.insert_reserved-m.result)
    c.args.u c.args.v c.whole_parts-source_parts.result c.whole_parts-target_parts.result c.args.line c.args.cycle c.insert_reserved-d.new.self c.insert_reserved-m.new.self
    c.give_out.new.vertices c.give_out-2.new.vertices
    c.insert_reserved-d.ensures.was_vacant c.insert_reserved-m.ensures.was_vacant c.insert_reserved-d.ensures.updates c.insert_reserved-m.ensures.updates c.give_out.ensures.row c.give_out-2.ensures.row
    c.index_mut-dart.result.now c.index_mut-dart.ensures.value

pub returns-clause-faces : goal.returns-clause-faces
returns-clause-faces c =
    let es = c.widen.new.cycles in
    let os = c.widen-2.new.cycles in
    let n = c.args.cycle.0 in
    let ps = c.whole_parts-source_parts.result in
    let qs = c.whole_parts-target_parts.result in
    let sound = faces_widened c.self.inside.cycles es n ps c.widen.ensures.row c.self.inside.vertices c.self.inside.faces c.self.invariant.faces in
    let sounder = faces_widened es os n qs c.widen-2.ensures.row c.self.inside.vertices c.self.inside.faces sound in
    let is = view_widened (record c.self.inside { cycles = es }) os n qs c.widen-2.ensures.row sound c.widen-2.ensures.len
    ∙ view_widened c.self.inside es n ps c.widen.ensures.row c.self.invariant.faces c.widen.ensures.len ∙ c.self.view_is in
    faces_column (record c.self.inside { cycles = os }) c.args.self.now is sounder c.give_out-2.new.vertices
    (λ n. nodes_given (dart_id c.insert_reserved-m.result) c.give_out.new.vertices c.give_out-2.new.vertices c.args.v.0 c.give_out-2.ensures.row n
    ∙ nodes_given (dart_id c.insert_reserved-d.result) c.self.inside.vertices c.give_out.new.vertices c.args.u.0 c.give_out.ensures.row n)
    (λ xs. put c.insert_reserved-m.result c.args.cycle (put c.insert_reserved-d.result c.args.cycle xs)) _
    (column_more c.self.inside.darts c.insert_reserved-d.new.self c.insert_reserved-m.new.self c.insert_reserved-d.result c.insert_reserved-m.result _ _ c.index_mut-dart.result.now _
    c.insert_reserved-d.ensures.updates c.insert_reserved-m.ensures.updates c.index_mut-dart.ensures.value refl)
