use Rattle.std.proofs.Common.{◌≡◌, map, take}
use Rattle.std.specs.List.{flat_map, AllByRecursion}
use Rattle.std.specs.List.Sorted.{IsStrictlyIncreasing}
use Rattle.present_graphs.specs.Marks.{mark_of}
use Rattle.subdivision_rows.specs.ByName.{numbers_of}
use Rattle.plain_slabs.specs.ByName.{key_marks}
use Rattle.plain_slabs.proofs.names.marks_of.Given as goal

abbrev pub invariant-loop-dart : goal.invariant-loop-dart
invariant-loop-dart g l = record {
  marks : map mark_of l.marks.items ≡ flat_map (key_marks (g.R.Curved.curve_list l.records)) (take l.dart-index l.darts);
  ascend : AllByRecursion (λ k. IsStrictlyIncreasing (numbers_of (g.R.Curved.curve_list l.records) k.name)) (take l.dart-index l.darts);
}
