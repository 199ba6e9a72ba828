use Rattle.std.proofs.Common.{◌≡◌, map, take}
use Rattle.arr_notes.specs.ViewRows.{vertex_row}
use Rattle.mirror_observer.specs.Tables.{rows, vertex_of}
use Rattle.mirror_observer.proofs.fill.vertices_of.Given as goal

abbrev pub invariant-loop-row : goal.invariant-loop-row
invariant-loop-row l = rows vertex_of l.vertices.entries ≡ map vertex_row (take l.row-index l.list)
