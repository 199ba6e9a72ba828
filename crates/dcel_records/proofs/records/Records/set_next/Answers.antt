use Rattle.dcel_records.proofs.Holding.{graph_seen}
use Rattle.dcel_records.proofs.FacesKept.{faces_sound, faces_column, column_written}
use Rattle.std.proofs.Common.{refl}
use Rattle.dcel_records.proofs.Holding.{dart_key}
use Rattle.dcel_records.proofs.Writing.{next_graph, next_kept}
use Rattle.dcel_records.proofs.Pins.{pins_kept}
use Rattle.dcel_records.proofs.OnCycles.{on_same}
use Rattle.dcel_records.proofs.Marked.{marked_kept}
use Rattle.dcel_records.proofs.records.Records.set_next.Goals as goal

pub index_mut-requires : goal.index_mut-requires
index_mut-requires c = dart_key c.self.inside.vertices c.self.inside.darts _ (graph_seen c.self.inside _ c.self.view_is) c.args.d c.requires

pub invariant_of-self : goal.invariant_of-self
invariant_of-self c = record {
  graph = pins_kept c.self.inside.vertices c.self.inside.darts _ _ (graph_seen c.self.inside _ c.self.view_is) c.self.invariant.graph _ _ _
      (next_graph c.self.inside.vertices c.self.inside.darts _ (graph_seen c.self.inside _ c.self.view_is) c.args.d c.args.n _ c.index_mut.ensures.value) refl
      (next_kept c.self.inside.vertices c.self.inside.darts _ (graph_seen c.self.inside _ c.self.view_is) c.self.invariant.graph.rows c.args.d c.args.n _ c.index_mut.ensures.value);
  faces = faces_sound c.self.inside c.args.self.now c.self.view_is c.self.invariant.faces c.self.inside.vertices (λ n. refl);
  vertex_room = c.self.invariant.vertex_room;
  cycle_room = c.self.invariant.cycle_room;
  on_cycles = on_same c.self.inside.darts c.self.inside.cycles c.args.d.0 c.index_mut.result.now _ c.index_mut.ensures.value refl refl c.self.invariant.on_cycles;
  marked = marked_kept c.self.inside.vertices c.self.inside.darts c.args.d.0 c.index_mut.result.now _ c.index_mut.ensures.value refl (record { twin = refl; parts = refl; target_parts = refl }) c.self.invariant.marked;
  moved = c.self.invariant.moved;
  isolated = c.self.invariant.isolated;
  keys = c.self.invariant.keys;
}

pub returns-clause-graph : goal.returns-clause-graph
returns-clause-graph c = next_graph c.self.inside.vertices c.self.inside.darts _ (graph_seen c.self.inside _ c.self.view_is) c.args.d c.args.n _ c.index_mut.ensures.value

pub returns-clause-faces : goal.returns-clause-faces
returns-clause-faces c = faces_column c.self.inside c.args.self.now c.self.view_is c.self.invariant.faces c.self.inside.vertices (λ n. refl) (λ xs. xs) _ (column_written c.self.inside.darts c.args.d.0 _ _ c.index_mut.ensures.value refl)
