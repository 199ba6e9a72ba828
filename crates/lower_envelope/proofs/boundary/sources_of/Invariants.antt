use Rattle.std.proofs.Common.{◌≡◌, map, take}
use Rattle.lower_envelope.specs.Corners.{end_key}
use Rattle.lower_envelope.proofs.boundary.sources_of.Given as goal

abbrev pub invariant-loop-dart : goal.invariant-loop-dart
invariant-loop-dart g l = l.sources.items ≡ map (end_key (g.R.Darts.graph l.records)) (take l.dart-index l.darts)
