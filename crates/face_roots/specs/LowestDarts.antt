-- Round a vertex from below: what is below each edge that starts there.
use Rattle.std.specs.Prelude.{◌≡◌, ◌≢◌, Option, true}
use Rattle.std.specs.List.{Contains}
use Rattle.exact_plane.specs.Point.{Point}
use Rattle.plane_graphs.specs.Graph.{Edge}
use Rattle.slab_laws.specs.Skeleton.{Skeleton, IsPlaneSkeleton}
use Rattle.slab_laws.specs.Darts.{IsOut, ahead, back}
use Rattle.slab_laws.specs.Meets.{SameFace}
use Rattle.slab_laws.specs.Cycles.{left_of_dart}
use Rattle.slab_laws.specs.Rotation.{earlier}
use Rattle.edge_predicates.specs.FaceLaws.{cell_over}
use Rattle.edge_predicates.specs.Highest.{IsHighestBelow}

-- of the edges that start at v, to the right or straight up, e is the last clockwise: the lowest (this project)
pub record IsLowestFrom (g : Skeleton) (v : Point) (e : Edge) : Type 0 where
  pub out : IsOut g v e true
  pub lowest : (f : Edge) → IsOut g v f true → earlier (ahead e) (ahead f) ≢ true

-- f is the next one clockwise after e: the next lower (this project)
pub record IsNextLower (g : Skeleton) (v : Point) (e f : Edge) : Type 0 where
  pub upper : IsOut g v e true
  pub lower : IsOut g v f true
  pub after : earlier (ahead e) (ahead f) ≡ true
  pub none : (c : Edge) → IsOut g v c true → earlier (ahead e) (ahead c) ≡ true → earlier (ahead c) (ahead f) ≢ true

-- below the lowest is what is below v; below any other is what is above the next lower one (this project)
pub record LowestIsAboveBelow : Type 0 where
  pub lowest : (g : Skeleton) (v : Point) (e : Edge) (o : Option Edge) → IsPlaneSkeleton g → IsLowestFrom g v e → IsHighestBelow (Contains g.edges) v o → SameFace g (left_of_dart g (back e)) (cell_over g o)
  pub lower : (g : Skeleton) (v : Point) (e f : Edge) → IsPlaneSkeleton g → IsNextLower g v e f → SameFace g (left_of_dart g (back e)) (left_of_dart g (ahead f))
