use Rattle.std.proofs.Common.{◌≡◌, map, take}
use Rattle.arr_notes.specs.ViewRows.{dart_named}
use Rattle.arr_notes.proofs.drawing.dart_rows.Given as goal

abbrev pub invariant-loop-name : goal.invariant-loop-name
invariant-loop-name g l = l.rows ≡ map (dart_named (g.R.Darts.graph l.records) (g.R.Faced.faces l.records)) (take l.name-index l.names)
