use Rattle.std.proofs.Common.{◌≡◌, map, take}
use Rattle.arr_notes.specs.ViewRows.{cycle_row}
use Rattle.mirror_observer.specs.FaceTables.{cycle_record}
use Rattle.mirror_observer.specs.Tables.{rows}
use Rattle.mirror_observer.proofs.fill_faces.cycles_of.Given as goal

abbrev pub invariant-loop-row : goal.invariant-loop-row
invariant-loop-row l = rows cycle_record l.cycles.entries ≡ map cycle_row (take l.row-index l.list)
