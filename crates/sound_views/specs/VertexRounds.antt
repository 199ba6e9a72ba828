-- Going round a vertex.
use Rattle.std.specs.Prelude.{ℕ, zero, suc, List, [], ◌∷◌, true, false}
use Rattle.slab_laws.specs.Darts.{Dart}
use Rattle.slab_laws.specs.Rotation.{twin, same_dart, next}

-- from e on clockwise round its source, until d comes again, at most n darts: what follows the twin is the next dart of the round (CGAL manual, circulator around a vertex)
unfoldable pub round : (ds : List Dart) (n : ℕ) (first at : Dart) → List Dart
round ds zero d e = []
round ds (suc n) d e = let f : Dart = next ds (twin e) in e ∷ elim (same_dart f d) [ true ↦ [] | false ↦ round ds n d f ]
