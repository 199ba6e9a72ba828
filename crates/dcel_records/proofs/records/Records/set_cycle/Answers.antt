use Rattle.dcel_records.proofs.Holding.{graph_seen}
use Rattle.std.proofs.Common.{refl, ◌∙◌}
use Rattle.slab.specs.Slab.{get}
use Rattle.arr_notes.specs.NamedRows.{put}
use Rattle.dcel_records.proofs.Holding.{dart_key}
use Rattle.dcel_records.proofs.CycleColumn.{cycle_graph_part, cycle_kept}
use Rattle.dcel_records.proofs.FacesKept.{column_put, faces_column}
use Rattle.dcel_records.proofs.OnCycles.{on_write, one_row_parts}
use Rattle.dcel_records.proofs.Rooms.{room_same}
use Rattle.dcel_records.proofs.CyclesWritten.{cycle_key}
use Rattle.dcel_records.proofs.Marked.{marked_kept}
use Rattle.dcel_records.proofs.Widened.{faces_widened, on_widened, view_widened, widened_has}
use Rattle.dcel_records.proofs.records.Records.set_cycle.Goals as goal

pub index-requires : goal.index-requires
index-requires c = dart_key c.self.inside.vertices c.self.inside.darts _ (graph_seen c.self.inside _ c.self.view_is) c.args.d c.requires.dart

pub widen-requires : goal.widen-requires
widen-requires c = cycle_key c.self.inside _ c.self.view_is c.self.invariant.faces c.args.c c.requires.cycle

pub index_mut-requires : goal.index_mut-requires
index_mut-requires c = dart_key c.self.inside.vertices c.self.inside.darts _ (graph_seen c.self.inside _ c.self.view_is) c.args.d c.requires.dart

pub invariant_of-self : goal.invariant_of-self
invariant_of-self c =
    let vs = c.self.inside.vertices in
    let ds = c.self.inside.darts in
    let cs = c.self.inside.cycles in
    let es = c.widen.new.cycles in
    let u = c.widen.ensures.row in
    let key = cycle_key c.self.inside _ c.self.view_is c.self.invariant.faces c.args.c c.requires.cycle in
    record {
      graph = record { rows = cycle_kept vs ds c.args.d c.args.c c.index_mut.result.now c.index_mut.ensures.value c.self.invariant.graph.rows; mapped = c.self.invariant.graph.mapped; counted = c.self.invariant.graph.counted };
      faces = faces_widened cs es c.args.c.0 _ u vs c.self.inside.faces c.self.invariant.faces;
      vertex_room = c.self.invariant.vertex_room;
      cycle_room = room_same c.self.inside.cycle_room cs es c.self.invariant.cycle_room c.widen.ensures.len c.widen.ensures.capacity;
      on_cycles = on_write ds es c.args.d.0 c.index_mut.result.now _ c.index_mut.ensures.value
          (one_row_parts ds c.args.d.0 c.index.result.now c.index_mut.result.now (get es c.args.c.0) c.index.ensures c.index_mut.ensures.value (widened_has cs es c.args.c.0 _ u key))
          (on_widened cs es c.args.c.0 _ u ds c.self.invariant.on_cycles);
      marked = marked_kept vs ds c.args.d.0 c.index_mut.result.now _ c.index_mut.ensures.value refl (record { twin = refl; parts = refl; target_parts = refl }) c.self.invariant.marked;
      moved = c.self.invariant.moved;
      isolated = c.self.invariant.isolated;
      keys = c.self.invariant.keys;
    }

pub returns-clause-graph : goal.returns-clause-graph
returns-clause-graph c =
    let is = view_widened c.self.inside c.widen.new.cycles c.args.c.0 _ c.widen.ensures.row c.self.invariant.faces c.widen.ensures.len ∙ c.self.view_is in
    cycle_graph_part (record c.self.inside { cycles = c.widen.new.cycles }) _ is c.args.d c.args.c c.index_mut.result.now c.index_mut.ensures.value

pub returns-clause-faces : goal.returns-clause-faces
returns-clause-faces c =
    let sound = faces_widened c.self.inside.cycles c.widen.new.cycles c.args.c.0 _ c.widen.ensures.row c.self.inside.vertices c.self.inside.faces c.self.invariant.faces in
    let is = view_widened c.self.inside c.widen.new.cycles c.args.c.0 _ c.widen.ensures.row c.self.invariant.faces c.widen.ensures.len ∙ c.self.view_is in
    faces_column (record c.self.inside { cycles = c.widen.new.cycles }) _ is sound c.self.inside.vertices (λ n. refl) (put c.args.d.0 c.args.c) _ (column_put c.self.inside.darts c.args.d.0 c.index_mut.result.now _ c.index_mut.ensures.value)
