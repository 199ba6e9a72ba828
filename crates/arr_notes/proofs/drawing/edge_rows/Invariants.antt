use Rattle.std.proofs.Common.{◌≡◌, map, take}
use Rattle.std.specs.Prelude.{filter}
use Rattle.arr_notes.specs.Curves.{is_forward}
use Rattle.arr_notes.specs.ViewRows.{edge_named}
use Rattle.arr_notes.proofs.drawing.edge_rows.Given as goal

abbrev pub invariant-loop-name : goal.invariant-loop-name
invariant-loop-name g l = l.rows ≡ map (edge_named (g.R.Darts.graph l.records) (g.R.Curved.curve_list l.records)) (filter (is_forward (g.R.Darts.graph l.records)) (take l.name-index l.names))
