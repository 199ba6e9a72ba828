use Rattle.std.proofs.Common.{◌≡◌, take}
use Rattle.slab_laws.specs.SpansDrawn.{drawn}
use Rattle.slab_laws.specs.Rows.{twin_places}
use Rattle.dart_orbits.proofs.twins.twins_of.Given as goal

abbrev pub invariant-loop-dart : goal.invariant-loop-dart
invariant-loop-dart l = l.twins.items ≡ take l.dart-index (twin_places (drawn l.points l.edges))
