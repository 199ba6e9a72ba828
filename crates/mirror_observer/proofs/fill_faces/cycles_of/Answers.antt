use Rattle.std.proofs.Common.{refl}
use Rattle.arr_notes.specs.ViewRows.{cycle_row}
use Rattle.mirror_observer.specs.FaceTables.{cycle_record}
use Rattle.mirror_observer.proofs.Filling.{filled_at}
use Rattle.mirror_observer.proofs.fill_faces.cycles_of.Goals as goal

pub loop-row-preserved : goal.loop-row-preserved
loop-row-preserved c = filled_at cycle_row cycle_record c.args.list.now c.loop-row.row-index _ _ _ _ _ c.requires c.loop-row-test.true refl c.loop-row.invariant c.in_ok-insert.ensures.entries refl
