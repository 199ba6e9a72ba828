use Rattle.std.proofs.Common.{◌∙◌, ap, arith}
use Rattle.arr_notes.specs.ViewRows.{edge_row}
use Rattle.mirror_observer.specs.Tables.{numbers_in}
use Rattle.mirror_observer.proofs.Filling.{filled_more}
use Rattle.mirror_observer.proofs.fill.curves_of.Goals as goal

pub loop-row-preserved : goal.loop-row-preserved
loop-row-preserved c = filled_more edge_row numbers_in c.args.list.now c.loop-row.row-index c.row-item.result _ _ _ c.requires (omega arith) c.row-item.is c.loop-row.invariant c.in_ok-insert.ensures.entries (ap numbers_in (c.in_ok-along.ensures ∙ c.as_slice.ensures))
