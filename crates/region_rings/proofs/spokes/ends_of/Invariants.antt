use Rattle.std.proofs.Common.{◌≡◌, ◌++◌, map, take, length}
use Rattle.std.specs.List.{range_with_len}
use Rattle.region_rings.specs.Spokes.{out_spoke, in_spoke}
use Rattle.region_rings.proofs.spokes.ends_of.Given as goal

abbrev pub invariant-loop-dart : goal.invariant-loop-dart
invariant-loop-dart l = l.spokes.items ≡ take l.dart (map (out_spoke l.darts) (range_with_len 0 (length l.darts)))

abbrev pub invariant-loop-dart-2 : goal.invariant-loop-dart-2
invariant-loop-dart-2 l = l.spokes.items ≡ map (out_spoke l.darts) (range_with_len 0 (length l.darts)) ++ take l.dart (map (in_spoke l.darts) (range_with_len 0 (length l.darts)))
