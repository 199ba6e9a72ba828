use Rattle.dcel_records.proofs.Rooms.{room_same}
use Rattle.dcel_records.proofs.Holding.{graph_seen}
use Rattle.arr_notes.specs.NamedRows.{del}
use Rattle.slab_laws.specs.declared.names.DartId.{DartId}
use Rattle.slab_laws.specs.View.{twin_in}
use Rattle.dcel_records.proofs.FacesKept.{faces_sound, faces_column, column_less, nodes_out_twice}
use Rattle.std.proofs.Common.{refl, ap, ◌∙◌}
use Rattle.dcel_records.proofs.Holding.{dart_key, source_is, twin_is}
use Rattle.dcel_records.proofs.Removing.{key_written, len_out_twice, less_spare, source_key, twin_there, twin_source, target_key}
use Rattle.dcel_records.proofs.Writing.{less_graph, less_kept}
use Rattle.dcel_records.proofs.Pins.{pins_kept}
use Rattle.dcel_records.proofs.OnCycles.{on_less}
use Rattle.dcel_records.proofs.Isolated.{isolated_same}
use Rattle.dcel_records.proofs.Marked.{marked_less}
use Rattle.dcel_records.proofs.records.Records.remove_pair.Goals as goal

pub remove-dart-requires : goal.remove-dart-requires
remove-dart-requires c = dart_key c.self.inside.vertices c.self.inside.darts _ (graph_seen c.self.inside _ c.self.view_is) c.args.d c.requires.dart

pub remove-twin-requires : goal.remove-twin-requires
remove-twin-requires c =
    twin_there c.self.inside.vertices c.self.inside.darts _ (graph_seen c.self.inside _ c.self.view_is) c.self.invariant.graph.rows c.args.d c.remove-dart.result c.requires.dart
    c.remove-dart.ensures.value c.remove-dart.new.self c.remove-dart.ensures.updates

pub index_mut-requires : goal.index_mut-requires
index_mut-requires c = source_key c.self.inside.vertices c.self.inside.darts _ (graph_seen c.self.inside _ c.self.view_is) c.self.invariant.graph.rows c.args.d c.remove-dart.result c.requires.dart c.remove-dart.ensures.value

pub index_mut-requires-2 : goal.index_mut-requires-2
index_mut-requires-2 c =
    key_written c.self.inside.vertices c.remove-dart.result.source.0 _ _ c.index_mut.ensures.value _
    (target_key c.self.inside.vertices c.self.inside.darts _ (graph_seen c.self.inside _ c.self.view_is) c.self.invariant.graph.rows c.args.d c.remove-dart.result c.requires.dart
    c.remove-dart.ensures.value c.remove-dart.new.self c.remove-dart.ensures.updates c.remove-twin.result c.remove-twin.ensures.value)

pub invariant_of-self : goal.invariant_of-self
invariant_of-self c = record {
  graph = pins_kept c.self.inside.vertices c.self.inside.darts _ _ (graph_seen c.self.inside _ c.self.view_is) c.self.invariant.graph _ _ _
      (less_graph c.self.inside.vertices c.self.inside.darts _ (graph_seen c.self.inside _ c.self.view_is) c.args.d c.remove-dart.result.twin c.remove-dart.result.source c.remove-twin.result.source c.args.rest_u c.args.rest_v c.remove-dart.new.self c.remove-twin.new.self _ _
      c.remove-dart.ensures.updates c.remove-twin.ensures.updates c.index_mut.ensures.value c.index_mut-2.ensures.value
      (twin_is c.self.inside.vertices c.self.inside.darts _ (graph_seen c.self.inside _ c.self.view_is) c.args.d c.remove-dart.result c.remove-dart.ensures.value))
      refl
      (less_kept c.self.inside.vertices c.self.inside.darts _ (graph_seen c.self.inside _ c.self.view_is) c.self.invariant.graph.rows c.args.d c.remove-dart.result.twin c.remove-dart.result.source c.remove-twin.result.source c.args.rest_u c.args.rest_v c.remove-dart.new.self c.remove-twin.new.self _ _ c.requires.dart
      c.remove-dart.ensures.updates c.remove-twin.ensures.updates c.index_mut.ensures.value c.index_mut-2.ensures.value
      (twin_is c.self.inside.vertices c.self.inside.darts _ (graph_seen c.self.inside _ c.self.view_is) c.args.d c.remove-dart.result c.remove-dart.ensures.value)
      (source_is c.self.inside.vertices c.self.inside.darts _ (graph_seen c.self.inside _ c.self.view_is) c.args.d c.remove-dart.result c.remove-dart.ensures.value)
      (twin_source c.self.inside.vertices c.self.inside.darts _ (graph_seen c.self.inside _ c.self.view_is) c.self.invariant.graph.rows c.args.d c.remove-dart.result c.requires.dart
      c.remove-dart.ensures.value c.remove-dart.new.self c.remove-dart.ensures.updates c.remove-twin.result c.remove-twin.ensures.value)
      c.requires.ends c.requires.rest_u c.requires.rest_v);
  faces = faces_sound c.self.inside c.args.self.now c.self.view_is c.self.invariant.faces _
      (nodes_out_twice c.self.inside.vertices c.remove-dart.result.source.0 c.remove-twin.result.source.0 c.args.rest_u c.args.rest_v _ _ c.index_mut.ensures.value c.index_mut-2.ensures.value);
  vertex_room = room_same c.self.inside.vertex_room c.self.inside.vertices _ c.self.invariant.vertex_room
      (len_out_twice c.self.inside.vertices c.remove-dart.result.source.0 c.remove-twin.result.source.0 c.args.rest_u c.args.rest_v _ _ c.index_mut.ensures.value c.index_mut-2.ensures.value)
      refl;
  cycle_room = c.self.invariant.cycle_room;
  on_cycles = on_less c.remove-dart.new.self c.remove-twin.new.self c.self.inside.cycles _ c.remove-twin.ensures.updates
      (on_less c.self.inside.darts c.remove-dart.new.self c.self.inside.cycles _ c.remove-dart.ensures.updates c.self.invariant.on_cycles);
  marked = marked_less c.self.inside.vertices c.self.inside.darts c.remove-dart.new.self c.remove-twin.new.self _ _ c.remove-dart.result.source.0 c.remove-twin.result.source.0 c.args.rest_u
      c.args.rest_v _ _ c.remove-dart.ensures.updates c.remove-twin.ensures.updates c.index_mut.ensures.value c.index_mut-2.ensures.value c.self.invariant.marked;
  moved = c.self.invariant.moved;
  isolated = c.self.invariant.isolated ∙ isolated_same c.self.inside.vertices _
      (nodes_out_twice c.self.inside.vertices c.remove-dart.result.source.0 c.remove-twin.result.source.0 c.args.rest_u c.args.rest_v _ _ c.index_mut.ensures.value c.index_mut-2.ensures.value);
  keys = c.self.invariant.keys;
}

pub returns-clause-graph : goal.returns-clause-graph
returns-clause-graph c =
    less_graph c.self.inside.vertices c.self.inside.darts _ (graph_seen c.self.inside _ c.self.view_is) c.args.d c.remove-dart.result.twin c.remove-dart.result.source
    c.remove-twin.result.source c.args.rest_u c.args.rest_v c.remove-dart.new.self c.remove-twin.new.self _ _
    c.remove-dart.ensures.updates c.remove-twin.ensures.updates c.index_mut.ensures.value c.index_mut-2.ensures.value
    (twin_is c.self.inside.vertices c.self.inside.darts _ (graph_seen c.self.inside _ c.self.view_is) c.args.d c.remove-dart.result c.remove-dart.ensures.value)

pub returns-clause-spare : goal.returns-clause-spare
returns-clause-spare c =
    less_spare c.self.inside _ c.self.view_is c.remove-dart.new.self c.remove-twin.new.self c.remove-dart.result.source.0 c.remove-twin.result.source.0 c.args.rest_u c.args.rest_v _ _ c.index_mut.ensures.value c.index_mut-2.ensures.value
    c.remove-dart.ensures.len c.remove-dart.ensures.room c.remove-dart.ensures.capacity c.remove-twin.ensures.len c.remove-twin.ensures.capacity

pub returns-clause-faces : goal.returns-clause-faces
returns-clause-faces c =
    faces_column c.self.inside c.args.self.now c.self.view_is c.self.invariant.faces _
    (nodes_out_twice c.self.inside.vertices c.remove-dart.result.source.0 c.remove-twin.result.source.0 c.args.rest_u c.args.rest_v _ _ c.index_mut.ensures.value c.index_mut-2.ensures.value)
    (λ xs. del (twin_in c.args.self.now.graph c.args.d).0 (del c.args.d.0 xs)) c.remove-twin.new.self
    (column_less c.self.inside.darts c.remove-dart.new.self c.remove-twin.new.self c.args.d.0 c.remove-dart.result.twin.0 (twin_in c.args.self.now.graph c.args.d) c.remove-dart.ensures.updates
    c.remove-twin.ensures.updates
    (ap (λ (x : DartId). x.0) (twin_is c.self.inside.vertices c.self.inside.darts _ (graph_seen c.self.inside _ c.self.view_is) c.args.d c.remove-dart.result c.remove-dart.ensures.value)))
