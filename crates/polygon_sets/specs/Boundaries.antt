-- The border of a region as a plane graph of its own, whose edges alone tell what is inside.
use Rattle.std.specs.Prelude.{◌≡◌, ◌&&◌, not, Bool, List, map}
use Rattle.std.specs.List.{filter}
use Rattle.exact_plane.specs.Point.{Point}
use Rattle.slab_laws.specs.declared.slab_cell.SlabCell.{SlabCell}
use Rattle.slab_laws.specs.Cycles.{left_of_dart}
use Rattle.slab_laws.specs.Darts.{Dart}
use Rattle.slab_laws.specs.Rotation.{twin}
use Rattle.slab_laws.specs.Rows.{dart_list}
use Rattle.slab_laws.specs.Skeleton.{Skeleton, IsPlaneSkeleton}
use Rattle.slab_laws.specs.Weights.{IsEvenAtVertices}
use Rattle.set_laws.specs.EvenOdd.{odd_above}
use Rattle.polygon_sets.specs.Regions.{dart_ends}

-- a cell is inside where an odd number of edges is above it (even-odd rule: Foley, van Dam and others, Computer Graphics)
abbrev pub is_inside : Skeleton → SlabCell → Bool
is_inside g c = odd_above g (λ e. 1) c

-- what is inside is on the left of the dart, and isn't on its right
abbrev pub is_bound : Skeleton → Dart → Bool
is_bound g d = is_inside g (left_of_dart g d) && not (is_inside g (left_of_dart g (twin d)))

-- the darts that bound what is inside, in their order
abbrev pub bounds_of : Skeleton → List Dart
bounds_of g = filter (is_bound g) (dart_list g)

-- a plane graph with an even number of edges at each vertex, whose darts that bound what is inside are these (this project)
pub record IsBoundary (ds : List (Point × Point)) : Type 0 where
  pub graph : Skeleton
  pub plane : IsPlaneSkeleton graph
  pub even : IsEvenAtVertices graph (λ e. 1)
  pub darts : ds ≡ map dart_ends (bounds_of graph)
