use Rattle.std.proofs.Common.{◌≡◌, map, take}
use Rattle.arr_notes.specs.ViewRows.{edge_row}
use Rattle.mirror_observer.specs.Tables.{rows, numbers_in}
use Rattle.mirror_observer.proofs.fill.curves_of.Given as goal

abbrev pub invariant-loop-row : goal.invariant-loop-row
invariant-loop-row l = rows numbers_in l.curves.entries ≡ map edge_row (take l.row-index l.list)
