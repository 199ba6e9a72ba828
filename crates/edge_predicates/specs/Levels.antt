-- The edges that a point sees below it, from the lowest up: each has a level, how many edges of its slab are below it.
use Rattle.std.specs.Prelude.{◌≡◌, ℕ, ◌+◌, ◌<◌, ◌≤◌, ⊤, true, false, Option, Some, None}
use Rattle.std.specs.List.{Contains}
use Rattle.exact_plane.specs.Point.{Point}
use Rattle.plane_graphs.specs.Graph.{Edge}
use Rattle.slab_laws.specs.Skeleton.{Skeleton, HasWeight, under, IsPlaneSkeleton}
use Rattle.slab_laws.specs.Slabs.{slab_right, place}
use Rattle.edge_predicates.specs.Above.{is_above}
use Rattle.edge_predicates.specs.Highest.{IsSpanning, IsHighestBelow}

-- an edge of the graph that spans q below it (Fogel, Halperin and Wein: vertical ray shooting)
pub record IsSeen (g : Skeleton) (q : Point) (e : Edge) : Type 0 where
  pub in' : Contains g.edges e
  pub spanning : IsSpanning e q
  pub lies_under : under e q ≡ true

-- how many edges of the slab on the right of q are below it (Fogel, Halperin and Wein: levels of an arrangement)
abbrev pub level : Skeleton → Point → Edge → ℕ
level g q e = place g (slab_right g q) e

-- none, or one that q sees
abbrev pub IsSeenAtMost : Skeleton → Point → Option Edge → Type 0
IsSeenAtMost g q None = ⊤
IsSeenAtMost g q (Some e) = IsSeen g q e

-- how many levels end with it
abbrev pub levels_to : Skeleton → Point → Option Edge → ℕ
levels_to g q None = 0
levels_to g q (Some e) = level g q e + 1

-- `is_above` tells which of two edges that a point sees has the higher level, and one whose level no other passes is the highest (this project)
pub record LevelsTellHighest : Type 0 where
  pub above : (g : Skeleton) (q : Point) (e f : Edge) → IsPlaneSkeleton g → HasWeight q → IsSeen g q e → IsSeen g q f → is_above e f ≡ true → level g q f < level g q e
  pub not_above : (g : Skeleton) (q : Point) (e f : Edge) → IsPlaneSkeleton g → HasWeight q → IsSeen g q e → IsSeen g q f → is_above e f ≡ false → level g q e ≤ level g q f
  pub highest : (g : Skeleton) (q : Point) (o : Option Edge) → IsPlaneSkeleton g → HasWeight q → IsSeenAtMost g q o → ((f : Edge) → IsSeen g q f → level g q f < levels_to g q o) → IsHighestBelow (Contains g.edges) q o
