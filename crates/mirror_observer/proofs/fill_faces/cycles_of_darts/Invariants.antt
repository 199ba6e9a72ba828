use Rattle.std.proofs.Common.{◌≡◌, map, take}
use Rattle.arr_notes.specs.ViewRows.{cycle_of_row}
use Rattle.mirror_observer.proofs.fill_faces.cycles_of_darts.Given as goal

abbrev pub invariant-loop-row : goal.invariant-loop-row
invariant-loop-row l = l.cycle_of.entries ≡ map cycle_of_row (take l.row-index l.list)
