use Rattle.std.proofs.Common.{not, ap, ◌∙◌, arith}
use Rattle.dcel_records.proofs.BareWritten.{node_there, left_already, left_now, vertex_there}
use Rattle.dcel_records.proofs.Isolated.{isolated_left}
use Rattle.dcel_records.proofs.bare.leave_face.Goals as goal

pub unlink-requires-clause-has : goal.unlink-requires-clause-has
unlink-requires-clause-has c = node_there c.args.vertices.now c.args.faces.now c.requires.chained c.args.v.0 _ c.index.ensures (ap not (c.is_none.ensures ∙ ap not c.if-is_none.false))

pub returns-then-is_none-clause-left : goal.returns-then-is_none-clause-left
returns-then-is_none-clause-left c = left_already c.args.vertices.now c.args.faces.now c.requires.chained c.args.v.0 _ c.index.ensures (ap not (c.is_none.ensures ∙ ap not c.if-is_none.true))

pub index_mut-requires : goal.index_mut-requires
index_mut-requires c = vertex_there c.args.vertices.now c.unlink.new.rows c.args.faces.now c.unlink.new.faces c.unlink.ensures.kept c.args.v.0 c.requires.has

pub overflow_sub-isolated : goal.overflow_sub-isolated
overflow_sub-isolated c =
    let k = c.requires.counted in
    let m = isolated_left c.args.vertices.now _ c.args.faces.now c.unlink.new.faces c.args.v.0 (left_now c.args.vertices.now c.args.faces.now c.requires.chained c.args.v.0 _ c.index.ensures c.unlink.new.rows c.unlink.new.faces c.unlink.ensures c.index_mut.result.now c.index_mut.ensures.value) (node_there c.args.vertices.now c.args.faces.now c.requires.chained c.args.v.0 _ c.index.ensures (ap not (c.is_none.ensures ∙ ap not c.if-is_none.false))) in
    omega arith

pub returns-clause-left : goal.returns-clause-left
returns-clause-left c = left_now c.args.vertices.now c.args.faces.now c.requires.chained c.args.v.0 _ c.index.ensures c.unlink.new.rows c.unlink.new.faces c.unlink.ensures c.index_mut.result.now c.index_mut.ensures.value

pub returns-clause-counted : goal.returns-clause-counted
returns-clause-counted c =
    let k = c.requires.counted in
    let m = isolated_left c.args.vertices.now _ c.args.faces.now c.unlink.new.faces c.args.v.0 (left_now c.args.vertices.now c.args.faces.now c.requires.chained c.args.v.0 _ c.index.ensures c.unlink.new.rows c.unlink.new.faces c.unlink.ensures c.index_mut.result.now c.index_mut.ensures.value) (node_there c.args.vertices.now c.args.faces.now c.requires.chained c.args.v.0 _ c.index.ensures (ap not (c.is_none.ensures ∙ ap not c.if-is_none.false))) in
    omega arith
