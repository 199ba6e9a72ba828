use Rattle.std.proofs.Common.{◌≡◌, length}
use Rattle.dart_orbits.specs.Along.{ArePlacesAlong}
use Rattle.dart_orbits.proofs.twins.places_along.Given as goal

abbrev pub invariant-loop-place : goal.invariant-loop-place
invariant-loop-place l = record {
  counted : length l.places.items ≡ l.count;
  along : ArePlacesAlong l.darts l.forward l.place l.places.items;
}
