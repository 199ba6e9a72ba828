-- What stands on a wall.
use Rattle.std.specs.Prelude.{List, Bool, not, ◌&&◌}
use Rattle.std.specs.List.{list_any}
use Rattle.exact_plane.specs.Point.{Point}
use Rattle.exact_plane.specs.Span.{Span}
use Rattle.slab_laws.specs.Meets.{covers_above}
use Rattle.slab_laws.specs.Skeleton.{on_wall}
use Rattle.slab_laws.specs.SpansDrawn.{edge_of}

-- a vertical edge goes up from the point, or through it (this project)
abbrev pub is_covered : List Span → Point → Bool
is_covered ss p = list_any (λ s. covers_above (edge_of s) p) ss

-- the point is on the wall, and the cells on both sides meet just above it (this project)
abbrev pub is_open_corner : List Span → Point → Point → Bool
is_open_corner ss p wall = on_wall p wall && not (is_covered ss p)
