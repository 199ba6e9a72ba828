use Rattle.std.proofs.Common.{◌∙◌, sym, arith}
use Rattle.mirror_observer.specs.FaceTables.{faces_in}
use Rattle.mirror_observer.proofs.MovedRows.{vertex_next, vertices_moved}
use Rattle.mirror_observer.proofs.faces.FaceTables.move_vertices.Goals as goal

pub returns : goal.returns
returns c = sym (vertices_moved c.args.list.now c.args.face c.loop-v.v-index (faces_in c.loop-v.self) (omega arith)) ∙ c.loop-v.invariant

pub loop-v-preserved : goal.loop-v-preserved
loop-v-preserved c =
    let t = c.loop-v.self in
    vertex_next c.args.list.now c.args.face c.loop-v.v-index _ t.cycle_of.entries t.bare.entries _ t.cycles.entries t.faces.keys c.loop-v-test.true c.move_vertex.ensures ∙ c.loop-v.invariant
