use Rattle.std.proofs.Common.{◌≡◌, map, take}
use Rattle.plain_slabs.specs.ByName.{span_along}
use Rattle.plain_slabs.proofs.names.spans_of.Given as goal

abbrev pub invariant-loop-dart : goal.invariant-loop-dart
invariant-loop-dart g l = l.spans.items ≡ map (span_along (g.R.Darts.graph l.records)) (take l.dart-index l.darts)
