use Rattle.std.proofs.Common.{sym, refl, ◌∙◌}
use Rattle.slab_laws.specs.View.{vertex_id}
use Rattle.dcel_records.specs.SoundMaps.{map_of}
use Rattle.dcel_records.proofs.Spared.{none_spent, spare_then}
use Rattle.told_steps.proofs.Onward.{all_next, none_tidied, pinned_next, same_histories, same_records, tidied_next}
use Rattle.told_steps.proofs.redundant.remove_redundant.Goals as goal
use Rattle.told_steps.proofs.redundant.remove_redundant.Goals.{then-not-pinned, else-not-pinned}
use Rattle.told_steps.proofs.Moved.{same_layers}

pub loop-vertex-init : goal.loop-vertex-init
loop-vertex-init g c = record {
  tidied = none_tidied (map_of c.args.records.now) c.args.history.now _ c.args.vertices.now c.requires.in_step c.requires.have;
  layer = record { names = refl; pieces = refl; next = refl };
  map = c.requires.map;
  records = record { of_vertices = refl; of_darts = refl };
  faces = none_spent c.args.records.now.faces;
  history = record { by_edge = refl; by_curve = refl; of_pieces = refl };
}

pub loop-vertex-preserved : goal.loop-vertex-preserved
loop-vertex-preserved g c =
    let v = map_of c.args.records.now in
    let h = c.args.history.now in
    let all = c.args.vertices.now in
    let l = c.loop-vertex in
    let at = c.loop-vertex-test.true in
    elim c.if-not-pinned.branch [
      | then-not-pinned w ↦
          rw w.records-is (rw w.history-is (rw w.bus-is (record {
            tidied = tidied_next v h _ c.requires.in_step all c.requires.have c.requires.ascend l.vertex-index at (vertex_id 0) (map_of l.records) l.history _ l.invariant.tidied (sym c.pinned.ensures ∙ w.if-not-pinned.true) (map_of w.remove_if_redundant.new.records) w.remove_if_redundant.new.history _ w.remove_if_redundant.ensures.tidied;
            layer = same_layers c.args.history.now l.history w.remove_if_redundant.new.history l.invariant.layer w.remove_if_redundant.ensures.layer;
            records = same_records c.args.records.now l.records w.remove_if_redundant.new.records l.invariant.records w.remove_if_redundant.ensures.records_capacity;
            map = w.remove_if_redundant.ensures.map;
            faces = spare_then l.invariant.faces w.remove_if_redundant.ensures.spare_faces;
            history = same_histories c.args.history.now l.history w.remove_if_redundant.new.history l.invariant.history w.remove_if_redundant.ensures.history_capacity;
          })))
      | else-not-pinned w ↦
          rw w.records-is (rw w.history-is (rw w.bus-is (record {
            tidied = pinned_next v h _ c.requires.in_step all c.requires.have c.requires.ascend l.vertex-index at (vertex_id 0) (map_of l.records) l.history _ l.invariant.tidied (sym c.pinned.ensures ∙ w.if-not-pinned.false);
            layer = l.invariant.layer;
            map = l.invariant.map;
            records = l.invariant.records;
            faces = l.invariant.faces;
            history = l.invariant.history;
          })))
    ]

pub returns-clause-tidied : goal.returns-clause-tidied
returns-clause-tidied g c =
    let l = c.loop-vertex in
    all_next (map_of c.args.records.now) c.args.history.now _ c.requires.in_step c.args.vertices.now c.requires.have c.requires.ascend l.vertex-index c.loop-vertex-test.false (map_of l.records) l.history _ l.invariant.tidied
