-- The edges that a point sees above it, from the highest down: each has a floor, how many edges of the slab are below it.
use Rattle.std.specs.Prelude.{◌≡◌, ℕ, ◌+◌, true, length, Option, Some, None}
use Rattle.std.specs.List.{Contains}
use Rattle.exact_plane.specs.Point.{Point}
use Rattle.plane_graphs.specs.Graph.{Edge}
use Rattle.slab_laws.specs.Skeleton.{Skeleton, over}
use Rattle.slab_laws.specs.Slabs.{slab_left, place}
use Rattle.edge_predicates.specs.Highest.{IsSpanning}

-- an edge of the graph that spans q above it (Fogel, Halperin and Wein: vertical ray shooting)
pub record IsSeenAbove (g : Skeleton) (q : Point) (e : Edge) : Type 0 where
  pub in' : Contains g.edges e
  pub spanning : IsSpanning e q
  pub lies_over : over e q ≡ true

-- how many edges of the slab on the left of q are below it; above all edges at first (Fogel, Halperin and Wein: levels of an arrangement)
abbrev pub floor : Skeleton → Point → Option Edge → ℕ
floor g q None = length g.edges + 1
floor g q (Some e) = place g (slab_left g q) e
