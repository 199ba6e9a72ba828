use Rattle.std.proofs.Common.{◌<◌, length}
use Rattle.slab_laws.specs.SpansDrawn.{drawn}
use Rattle.dart_orbits.proofs.NextPlaces.{IsFirstOf}
use Rattle.plain_slabs.proofs.nexts.first_after.Given as goal

abbrev pub invariant-loop-place : goal.invariant-loop-place
invariant-loop-place l = record {
  below : l.first < length l.darts;
  first : IsFirstOf (drawn l.points l.edges) l.from l.first l.place;
}
