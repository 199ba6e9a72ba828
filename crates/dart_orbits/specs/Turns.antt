-- The darts out of one vertex, clockwise from one of them on.
use Rattle.std.specs.Prelude.{Bool, true, false, cond}
use Rattle.slab_laws.specs.Darts.{Dart}
use Rattle.slab_laws.specs.Rotation.{earlier}

-- of two darts out of d's source, the one that is met first on the way clockwise from just after d, which is met last (this project)
unfoldable pub comes_first : Dart → Dart → Dart → Bool
comes_first d a b = cond (earlier d a) (cond (earlier d b) (earlier a b) true) (cond (earlier d b) false (earlier a b))
