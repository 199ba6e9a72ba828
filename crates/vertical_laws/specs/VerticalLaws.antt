-- What is directly below a vertex, told by what a sweep knows at its event.
use Rattle.std.specs.Prelude.{◌≡◌, ◌⊎◌, true, false, cond, Option, Some, None}
use Rattle.std.specs.List.{Contains}
use Rattle.exact_plane.specs.Point.{Point}
use Rattle.plane_graphs.specs.Graph.{Edge}
use Rattle.slab_laws.specs.Skeleton.{Skeleton, IsPlaneSkeleton, lower_than, on_wall, over, under, below}
use Rattle.slab_laws.specs.Slabs.{reaches_left, reaches_right}
use Rattle.slab_laws.specs.Meets.{covers_above}
use Rattle.vertical_laws.specs.Vertical.{Stop, vertex, edge, covers_below, below_vertex, above_vertex}

-- a vertical edge ends at v
abbrev pub IsEnding : Skeleton → Point → Option Edge → Type 0
IsEnding g v None = (e : Edge) → Contains g.edges e → covers_below e v ≡ false
IsEnding g v (Some e) = Contains g.edges e × (covers_below e v ≡ true)

-- the vertex u is on the wall of v, below it
abbrev pub IsVertexBelow : Skeleton → Point → Point → Type 0
IsVertexBelow g v u = Contains g.vertices u × (on_wall u v ≡ true) × (lower_than u v ≡ true)

-- the last one, which is the event before v
abbrev pub IsLastBelow : Skeleton → Point → Option Point → Type 0
IsLastBelow g v None = (u : Point) → ¬ IsVertexBelow g v u
IsLastBelow g v (Some u) = IsVertexBelow g v u × ((w : Point) → IsVertexBelow g v w → lower_than u w ≡ false)

-- the sweep's front just after v meets the edge strictly below v
abbrev pub IsMetBelow : Skeleton → Point → Edge → Type 0
IsMetBelow g v e = Contains g.edges e × (reaches_right e v ≡ true) × (under e v ≡ true)

-- the highest of those, which is the status's neighbour
abbrev pub IsHighestMet : Skeleton → Point → Option Edge → Type 0
IsHighestMet g v None = (e : Edge) → ¬ IsMetBelow g v e
IsHighestMet g v (Some e) = IsMetBelow g v e × ((f : Edge) → IsMetBelow g v f → (f ≡ e) ⊎ (below f e ≡ true))

-- the edge counts where it passes above the last vertex of the wall
unfoldable pub told_stop : Option Point → Option Edge → Option Stop
told_stop None None = None
told_stop None (Some e) = Some (edge e)
told_stop (Some u) None = Some (vertex u)
told_stop (Some u) (Some e) = cond (over e u) (Some (edge e)) (Some (vertex u))

unfoldable pub told_below : Option Edge → Option Point → Option Edge → Option Stop
told_below (Some e) last met = Some (edge e)
told_below None last met = told_stop last met

abbrev pub LowerNeighbourIsTold : Type 0
LowerNeighbourIsTold =
    (g : Skeleton) (v : Point) (up : Option Edge) (last : Option Point) (met : Option Edge) → IsPlaneSkeleton g → Contains g.vertices v → IsEnding g v up → IsLastBelow g v last → IsHighestMet g v met → below_vertex g v ≡ told_below up last met

-- ---- and upward
-- a vertical edge starts at v
abbrev pub IsStarting : Skeleton → Point → Option Edge → Type 0
IsStarting g v None = (e : Edge) → Contains g.edges e → covers_above e v ≡ false
IsStarting g v (Some e) = Contains g.edges e × (covers_above e v ≡ true)

abbrev pub IsVertexAbove : Skeleton → Point → Point → Type 0
IsVertexAbove g v u = Contains g.vertices u × (on_wall u v ≡ true) × (lower_than v u ≡ true)

-- the first one, which is the event after v
abbrev pub IsFirstAbove : Skeleton → Point → Option Point → Type 0
IsFirstAbove g v None = (u : Point) → ¬ IsVertexAbove g v u
IsFirstAbove g v (Some u) = IsVertexAbove g v u × ((w : Point) → IsVertexAbove g v w → lower_than w u ≡ false)

-- the front meets the edge strictly above v: it comes from the left and hasn't ended
abbrev pub IsMetAbove : Skeleton → Point → Edge → Type 0
IsMetAbove g v e = Contains g.edges e × (reaches_left e v ≡ true) × (over e v ≡ true)

-- the lowest of those, which is the status's neighbour
abbrev pub IsLowestMet : Skeleton → Point → Option Edge → Type 0
IsLowestMet g v None = (e : Edge) → ¬ IsMetAbove g v e
IsLowestMet g v (Some e) = IsMetAbove g v e × ((f : Edge) → IsMetAbove g v f → (f ≡ e) ⊎ (below e f ≡ true))

-- the edge counts where it passes below the next vertex of the wall
unfoldable pub told_up : Option Point → Option Edge → Option Stop
told_up None None = None
told_up None (Some e) = Some (edge e)
told_up (Some u) None = Some (vertex u)
told_up (Some u) (Some e) = cond (under e u) (Some (edge e)) (Some (vertex u))

unfoldable pub told_above : Option Edge → Option Point → Option Edge → Option Stop
told_above (Some e) first met = Some (edge e)
told_above None first met = told_up first met

abbrev pub UpperNeighbourIsTold : Type 0
UpperNeighbourIsTold =
    (g : Skeleton) (v : Point) (up : Option Edge) (first : Option Point) (met : Option Edge) → IsPlaneSkeleton g → Contains g.vertices v → IsStarting g v up → IsFirstAbove g v first → IsLowestMet g v met → above_vertex g v ≡ told_above up first met
