-- Darts, their clockwise order round a vertex, and the dart that follows one.
use Rattle.std.specs.Prelude.{ℕ, List, [], ◌∷◌, ◌++◌, Bool, true, false, cond, not, ◌&&◌, ◌||◌, ◌==◌, filter, take, drop}
use Rattle.std.specs.List.{list_any, position_or_len}
use Rattle.std.specs.Ordering.{is_lt, ordering_then}
use Rattle.std.specs.declared.cmp.Ordering.{Ordering}
use Rattle.std.specs.declared.cmp.Ordering.TheVariants.{Less, Equal, Greater}
use lib.Dec.{ltb}
use Rattle.exact_plane.specs.Point.{Point}
use Rattle.slab_laws.specs.Darts.{Dart, source, target, class, IsOut}
use Rattle.slab_laws.specs.Skeleton.{same_point, same_edge, below, Skeleton}
use Rattle.exact_plane.specs.PointOrder.{point_cmp}
use Rattle.plane_graphs.specs.Ascending.{ascending}

-- the other way along the same edge (CGAL manual, halfedge)
abbrev pub twin : Dart → Dart
twin d = record { edge = d.edge; forward = not d.forward }

-- by source, then by target (this project)
abbrev pub dart_cmp : Dart → Dart → Ordering
dart_cmp d e = ordering_then (point_cmp (source d) (source e)) (point_cmp (target d) (target e))

-- both forward or both backward
abbrev pub same_way : Bool → Bool → Bool
same_way true b = b
same_way false b = not b

-- the same edge, gone the same way
unfoldable pub same_dart : Dart → Dart → Bool
same_dart d e = same_edge d.edge e.edge && same_way d.forward e.forward

-- comes before, by source, then by target (this project)
abbrev pub dart_below : Dart → Dart → Bool
dart_below d e = is_lt (dart_cmp d e)

-- in which quarter of the way round a vertex it goes out (this project)
abbrev pub turn : Dart → ℕ
turn d = class d.edge d.forward

-- of two darts out of one vertex, the first comes earlier on the way round clockwise that begins straight down
unfoldable pub earlier : Dart → Dart → Bool
earlier d e = ltb (turn d) (turn e) || ((turn d == turn e) && (((turn d == 0) && below d.edge e.edge) || ((turn d == 2) && below e.edge d.edge)))

-- the order of darts round a vertex (CGAL manual, circulator around a vertex)
unfoldable pub turn_cmp : Dart → Dart → Ordering
turn_cmp d e = cond (earlier d e) Less (cond (earlier e d) Greater Equal)

-- the darts out of v, clockwise from straight down
unfoldable pub ring : List Dart → Point → List Dart
ring ds v = ascending turn_cmp (filter (λ d. same_point (source d) v) ds)

-- what follows d in the ring, whose first dart is f
unfoldable pub after_in : Dart → Dart → List Dart → Dart
after_in f d [] = f
after_in f d (x ∷ []) = f
after_in f d (x ∷ y ∷ ys) = cond (same_dart d x) y (after_in f d (y ∷ ys))

-- the follower of d in the list, the first after the last (this project)
unfoldable pub after : Dart → List Dart → Dart
after d [] = d
after d (x ∷ xs) = after_in x d (x ∷ xs)

-- the dart out of the target that is first clockwise after the twin (CGAL manual, next halfedge of a boundary)
unfoldable pub next : List Dart → Dart → Dart
next ds d = after (twin d) (ring ds (target d))

-- the ring, begun at the dart with the least target
unfoldable pub rotation : List Dart → Point → List Dart
rotation ds v =
    let r : List Dart = ring ds v in
    let k : ℕ = position_or_len (λ d. not (list_any (λ e. is_lt (point_cmp (target e) (target d))) r)) r in
    drop k r ++ take k r

-- the dart goes out of p along an edge of the graph (CGAL manual, source)
abbrev pub OutOf : Skeleton → Point → Dart → Type 0
OutOf g p d = IsOut g p d.edge d.forward
