-- What starts at a vertex that no edge comes to from the left or from below is in the face of what is directly below that vertex.
use Rattle.std.specs.Prelude.{◌≡◌, ◌≢◌, ◌↔◌, Option, true, false}
use Rattle.std.specs.List.{Contains}
use Rattle.exact_plane.specs.Point.{Point}
use Rattle.plane_graphs.specs.Graph.{Edge}
use Rattle.slab_laws.specs.Skeleton.{Skeleton, IsPlaneSkeleton}
use Rattle.slab_laws.specs.Slabs.{left_cell, right_bottom}
use Rattle.slab_laws.specs.Darts.{Dart, source, IsOut}
use Rattle.slab_laws.specs.Meets.{SameFace}
use Rattle.slab_laws.specs.Cycles.{left_of_dart}
use Rattle.slab_laws.specs.Rotation.{earlier}
use Rattle.slab_laws.specs.Rows.{least_dart_of}
use Rattle.edge_predicates.specs.FaceLaws.{cell_over}
use Rattle.edge_predicates.specs.Highest.{IsHighestBelow}
use Rattle.sound_changes.specs.NextLaws.{IsDartOf}
use Rattle.face_changes.specs.Kinds.{is_outer}

-- the vertex v has no edge that ends there, neither from its left nor from straight below (Fogel, Halperin and Wein: the sweep's event that only right curves are incident to)
pub record IsStart (g : Skeleton) (v : Point) : Type 0 where
  pub vertex : Contains g.vertices v
  pub none_ends : (e : Edge) → Contains g.edges e → e.high ≢ v

-- nor one that starts there (CGAL manual, isolated vertex)
pub record IsBare (g : Skeleton) (v : Point) : Type 0 where
  pub start : IsStart g v
  pub none_starts : (e : Edge) → Contains g.edges e → e.low ≢ v

-- the first dart out of v clockwise, from straight down on (CGAL manual, circulator around a vertex)
pub record IsFirstOut (g : Skeleton) (v : Point) (x : Dart) : Type 0 where
  pub out : IsOut g v x.edge x.forward
  pub first : (c : Dart) → IsOut g v c.edge c.forward → earlier c x ≢ true

-- the cycle of d has, at its least vertex, the first dart out of a vertex where nothing ends (this project)
pub record StartsAtLeast (g : Skeleton) (d : Dart) : Type 0 where
  pub start : IsStart g (source (least_dart_of g d))
  pub dart : Dart
  pub first : IsFirstOut g (source (least_dart_of g d)) dart
  pub same : least_dart_of g dart ≡ least_dart_of g d

-- the cell at the lower right of a vertex is in the face of what is directly below it; where nothing ends at the vertex, so is its first dart, or the vertex alone; and a cycle is inner exactly where it starts something at its least vertex (CGAL manual: a hole, and the leftmost vertex of a component)
pub record LinksTellFaces : Type 0 where
  pub corner : (g : Skeleton) (v : Point) (o : Option Edge) → IsPlaneSkeleton g → Contains g.vertices v → IsHighestBelow (Contains g.edges) v o → SameFace g (right_bottom g v) (cell_over g o)
  pub start : (g : Skeleton) (v : Point) (x : Dart) (o : Option Edge) → IsPlaneSkeleton g → IsStart g v → IsFirstOut g v x → IsHighestBelow (Contains g.edges) v o → SameFace g (left_of_dart g x) (cell_over g o)
  pub bare : (g : Skeleton) (v : Point) (o : Option Edge) → IsPlaneSkeleton g → IsBare g v → IsHighestBelow (Contains g.edges) v o → SameFace g (left_cell g v) (cell_over g o)
  pub inner : (g : Skeleton) (d : Dart) → IsPlaneSkeleton g → IsDartOf g d → (is_outer g d ≡ false) ↔ StartsAtLeast g d
