use Rattle.arr_notes.proofs.NamedTables.{next_is}
use Rattle.arr_notes.proofs.drawing.has_vertex.Goals as goal

pub returns : goal.returns
returns g c =
    next_is (g.R.Darts.graph c.args.records.now).vertices _ c.args.vertex c.vertex_after.ensures.ascend c.name_below.ensures c.vertex_after.result c.vertex_after.ensures.after c.eq.result c.eq.ensures
