use Rattle.std.proofs.Common.{◌≡◌, length}
use Rattle.dart_orbits.specs.CycleLinks.{TellPlaces}
use Rattle.dart_orbits.proofs.cycles.places_by_leads.Given as goal

abbrev pub invariant-loop-place : goal.invariant-loop-place
invariant-loop-place l = record {
  counted : length l.places.items ≡ l.count;
  each : TellPlaces l.cycles l.place l.places.items;
}
