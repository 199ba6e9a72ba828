use Rattle.std.proofs.Common.{◌≡◌, map, take}
use Rattle.arr_notes.specs.ViewRows.{dart_row}
use Rattle.mirror_observer.specs.Tables.{rows, dart_of}
use Rattle.mirror_observer.proofs.fill.darts_apart.Given as goal

abbrev pub invariant-loop-row : goal.invariant-loop-row
invariant-loop-row l = rows dart_of l.darts.entries ≡ map dart_row (take l.row-index l.list)
