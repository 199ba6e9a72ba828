use Rattle.std.proofs.Common.{◌≡◌, map, take}
use Rattle.arr_notes.specs.ViewRows.{cycle_named}
use Rattle.arr_notes.proofs.drawing.cycle_rows.Given as goal

abbrev pub invariant-loop-name : goal.invariant-loop-name
invariant-loop-name g l = l.rows ≡ map (cycle_named (g.R.Faced.faces l.records)) (take l.name-index l.names)
