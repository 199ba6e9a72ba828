use Rattle.std.proofs.Common.{◌≡◌, map}
use Rattle.arr_notes.specs.ViewRows.{dart_row}
use Rattle.mirror_observer.specs.Tables.{rows, dart_of}
use Rattle.mirror_observer.proofs.Filling.{AreNamedBut}
use Rattle.mirror_observer.proofs.fill.name_previous.Given as goal

abbrev pub invariant-loop-row : goal.invariant-loop-row
invariant-loop-row l = record {
  rows : rows dart_of l.darts.entries ≡ map dart_row l.list;
  named : AreNamedBut l.list l.row-index l.darts.entries;
}
