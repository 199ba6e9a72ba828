use Rattle.dcel_records.proofs.Rooms.{room_more, room_fits}
use Rattle.dcel_records.proofs.Holding.{graph_seen}
use Rattle.dcel_records.specs.Placing.{vertex_placing, node_or}
use Rattle.dcel_records.proofs.FacesKept.{faces_sound, faces_column, nodes_updated}
use Rattle.std.proofs.Common.{refl, sym, ap, arith, ◌∙◌}
use Rattle.slab_laws.specs.View.{vertex_id}
use Rattle.dcel_records.proofs.Holding.{vertex_vacant}
use Rattle.dcel_records.proofs.Writing.{vertex_graph, vertex_kept}
use Rattle.dcel_records.proofs.Pins.{pins_put}
use Rattle.dcel_records.proofs.VertexMapped.{one_apart}
use Rattle.dcel_records.proofs.Isolated.{isolated_same}
use Rattle.dcel_records.proofs.Marked.{marked_more}
use Rattle.dcel_records.proofs.records.Records.add_vertex_on_edge.Goals as goal

pub invariant_of-self : goal.invariant_of-self
invariant_of-self c = record {
  graph = record {
    rows = vertex_kept c.self.inside.vertices c.self.inside.darts _ (graph_seen c.self.inside _ c.self.view_is) c.self.invariant.graph.rows _ (vertex_id c.insert_reserved.result) c.args.point
        c.insert_reserved.ensures.was_vacant c.insert_reserved.ensures.updates;
    mapped = c.put.ensures.map _ _ c.self.invariant.graph.mapped
        (one_apart c.self.inside.vertices c.insert_reserved.new.self c.insert_reserved.result _ c.insert_reserved.ensures.was_vacant c.insert_reserved.ensures.updates.changed c.insert_reserved.ensures.updates.others);
    counted = pins_put c.self.inside.vertices c.insert_reserved.new.self c.insert_reserved.result c.args.point _ c.insert_reserved.ensures.was_vacant c.insert_reserved.ensures.updates c.self.invariant.graph.counted;
  };
  faces = faces_sound c.self.inside c.args.self.now c.self.view_is c.self.invariant.faces c.insert_reserved.new.self
      (nodes_updated vertex_placing c.self.inside.vertices c.insert_reserved.new.self c.insert_reserved.result _ c.insert_reserved.ensures.updates (sym (ap (node_or vertex_placing) c.insert_reserved.ensures.was_vacant)));
  vertex_room =
      let z = ap (λ v. v.spare_vertices) c.self.view_is in
      let r = c.requires in
      room_more c.self.inside.vertex_room c.self.inside.vertices c.insert_reserved.new.self c.self.invariant.vertex_room (omega arith) c.insert_reserved.ensures.len c.insert_reserved.ensures.capacity;
  cycle_room = c.self.invariant.cycle_room;
  on_cycles = c.self.invariant.on_cycles;
  marked = marked_more c.self.inside.vertices c.insert_reserved.new.self c.self.inside.darts c.insert_reserved.result _ c.insert_reserved.ensures.was_vacant c.insert_reserved.ensures.updates c.self.invariant.marked;
  moved = c.self.invariant.moved;
  isolated = c.self.invariant.isolated ∙ isolated_same c.self.inside.vertices c.insert_reserved.new.self
      (nodes_updated vertex_placing c.self.inside.vertices c.insert_reserved.new.self c.insert_reserved.result _ c.insert_reserved.ensures.updates (sym (ap (node_or vertex_placing) c.insert_reserved.ensures.was_vacant)));
  keys = c.self.invariant.keys;
}

pub returns-clause-name : goal.returns-clause-name
returns-clause-name c = vertex_vacant c.self.inside.vertices c.self.inside.darts _ (graph_seen c.self.inside _ c.self.view_is) (vertex_id c.insert_reserved.result) c.insert_reserved.ensures.was_vacant

pub returns-clause-graph : goal.returns-clause-graph
returns-clause-graph c = vertex_graph c.self.inside.vertices c.self.inside.darts _ (graph_seen c.self.inside _ c.self.view_is) _ (vertex_id c.insert_reserved.result) c.args.point c.insert_reserved.ensures.updates

pub returns-clause-faces : goal.returns-clause-faces
returns-clause-faces c =
    faces_column c.self.inside c.args.self.now c.self.view_is c.self.invariant.faces c.insert_reserved.new.self
    (nodes_updated vertex_placing c.self.inside.vertices c.insert_reserved.new.self c.insert_reserved.result _ c.insert_reserved.ensures.updates (sym (ap (node_or vertex_placing) c.insert_reserved.ensures.was_vacant)))
    (λ xs. xs) c.self.inside.darts refl

pub insert_reserved-requires : goal.insert_reserved-requires
insert_reserved-requires c = room_fits c.self.inside.vertex_room _ c.self.inside.vertices c.self.invariant.vertex_room (ap (λ v. v.spare_vertices) c.self.view_is) c.requires
