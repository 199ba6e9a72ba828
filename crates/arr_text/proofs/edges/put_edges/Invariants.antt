use Rattle.std.proofs.Common.{◌≡◌, ◌++◌, take}
use Rattle.std.specs.Prelude.{flat_map}
use Rattle.arr_text.proofs.Lines.{edge_part}
use Rattle.arr_text.proofs.edges.put_edges.Given as goal

abbrev pub invariant-loop-dart : goal.invariant-loop-dart
invariant-loop-dart g l = l.out.items ≡ l.fn.out.items ++ flat_map (edge_part (g.R.Darts.graph l.records) (g.W.Words.curves l.records)) (take l.dart-index l.darts)
