use Rattle.std.proofs.Common.{◌∙◌, refl, sym, arith}
use Rattle.arr_notes.specs.ViewRows.{cycle_of_row}
use Rattle.mirror_observer.proofs.Filling.{filled_more}
use Rattle.mirror_observer.proofs.FillingFaces.{rows_same}
use Rattle.mirror_observer.proofs.fill_faces.cycles_of_darts.Goals as goal

pub loop-row-preserved : goal.loop-row-preserved
loop-row-preserved c =
    sym (rows_same _) ∙ filled_more cycle_of_row (λ x. x) c.args.list.now c.loop-row.row-index c.row-item.result _ _ _ c.requires (omega arith) c.row-item.is (rows_same _ ∙ c.loop-row.invariant) c.in_ok-insert.ensures.entries refl
