use Rattle.std.proofs.Common.{refl, arith}
use Rattle.arr_notes.specs.ViewRows.{vertex_row}
use Rattle.mirror_observer.specs.Tables.{vertex_of}
use Rattle.mirror_observer.proofs.Filling.{filled_more}
use Rattle.mirror_observer.proofs.fill.vertices_of.Goals as goal

pub loop-row-preserved : goal.loop-row-preserved
loop-row-preserved c = filled_more vertex_row vertex_of c.args.list.now c.loop-row.row-index c.row-item.result _ _ _ c.requires (omega arith) c.row-item.is c.loop-row.invariant c.in_ok-insert.ensures.entries refl
