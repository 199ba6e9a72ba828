use Rattle.dcel_records.proofs.Removing.{len_written}
use Rattle.dcel_records.proofs.Rooms.{room_same}
use Rattle.dcel_records.proofs.Holding.{graph_seen}
use Rattle.dcel_records.proofs.FacesKept.{faces_sound, faces_column, nodes_written}
use Rattle.std.proofs.Common.{true, arith, refl, ◌∙◌}
use Rattle.slab.specs.Slab.{with_value}
use Rattle.dcel_records.proofs.Holding.{vertex_key}
use Rattle.dcel_records.proofs.Writing.{row_pinned, pin_same, pin_graph, pin_kept}
use Rattle.dcel_records.proofs.Pins.{pin_more, pins_fit}
use Rattle.dcel_records.proofs.VertexMapped.{pin_mapped}
use Rattle.dcel_records.proofs.Isolated.{isolated_same}
use Rattle.dcel_records.proofs.Marked.{marked_written}
use Rattle.dcel_records.proofs.records.Records.set_pin.Goals as goal

pub index-requires : goal.index-requires
index-requires c = vertex_key c.self.inside.vertices c.self.inside.darts _ (graph_seen c.self.inside _ c.self.view_is) c.args.v c.requires

pub returns-then-index-clause-graph : goal.returns-then-index-clause-graph
returns-then-index-clause-graph c = pin_same c.self.inside.vertices c.self.inside.darts _ (graph_seen c.self.inside _ c.self.view_is) c.args.v true _ c.index.ensures c.if-index.true

pub index_mut-requires : goal.index_mut-requires
index_mut-requires c = vertex_key c.self.inside.vertices c.self.inside.darts _ (graph_seen c.self.inside _ c.self.view_is) c.args.v c.requires

pub overflow_add-self : goal.overflow_add-self
overflow_add-self c =
    let k = c.self.invariant.graph.counted in
    let m = pin_more c.self.inside.vertices c.args.v.0 _ _ c.index.ensures c.index_mut.ensures.value c.if-index.false in
    let f = pins_fit (with_value c.self.inside.vertices c.args.v.0 (row_pinned true c.index_mut.result.now)) in
    omega arith

pub invariant_of-self : goal.invariant_of-self
invariant_of-self c = record {
  graph = record {
    rows = pin_kept c.self.inside.vertices c.self.inside.darts _ (graph_seen c.self.inside _ c.self.view_is) c.self.invariant.graph.rows c.args.v true _ c.index_mut.ensures.value;
    mapped = pin_mapped _ c.self.inside.vertices c.args.v.0 true _ c.index_mut.ensures.value c.self.invariant.graph.mapped;
    counted = let k = c.self.invariant.graph.counted in let m = pin_more c.self.inside.vertices c.args.v.0 _ _ c.index.ensures c.index_mut.ensures.value c.if-index.false in omega arith;
  };
  faces = faces_sound c.self.inside c.args.self.now c.self.view_is c.self.invariant.faces _ (nodes_written c.self.inside.vertices _ _ _ c.index_mut.ensures.value refl);
  vertex_room = room_same c.self.inside.vertex_room c.self.inside.vertices _ c.self.invariant.vertex_room (len_written c.self.inside.vertices _ _ _ c.index_mut.ensures.value) refl;
  cycle_room = c.self.invariant.cycle_room;
  on_cycles = c.self.invariant.on_cycles;
  marked = marked_written c.self.inside.vertices c.self.inside.darts _ _ _ c.index_mut.ensures.value refl c.self.invariant.marked;
  moved = c.self.invariant.moved;
  isolated = c.self.invariant.isolated ∙ isolated_same c.self.inside.vertices _ (nodes_written c.self.inside.vertices _ _ _ c.index_mut.ensures.value refl);
  keys = c.self.invariant.keys;
}

pub returns-clause-graph : goal.returns-clause-graph
returns-clause-graph c = pin_graph c.self.inside.vertices c.self.inside.darts _ (graph_seen c.self.inside _ c.self.view_is) c.args.v true _ c.index_mut.ensures.value

pub returns-clause-faces : goal.returns-clause-faces
returns-clause-faces c = faces_column c.self.inside c.args.self.now c.self.view_is c.self.invariant.faces _ (nodes_written c.self.inside.vertices _ _ _ c.index_mut.ensures.value refl) (λ xs. xs) c.self.inside.darts refl
