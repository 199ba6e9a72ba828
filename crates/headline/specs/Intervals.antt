-- The stops of a wall, and its intervals, each of which a vertical edge covers whole or not at all.
use Rattle.std.specs.Prelude.{◌≡◌, pos, Bool, true, false, not, ◌&&◌, ◌⊎◌, ◌↔◌}
use Rattle.std.specs.List.{Contains}
use Rattle.exact_plane.specs.Point.{Point}
use Rattle.plane_graphs.specs.Graph.{Edge}
use Rattle.slab_laws.specs.Skeleton.{Skeleton, HasWeight, lower_than, on_wall, side, IsPlaneSkeleton}
use Rattle.slab_laws.specs.Faces.{passes}
use Rattle.slab_laws.specs.Slabs.{slab_left, slab_right, left_cell, right_cell}
use Rattle.slab_laws.specs.Meets.{IsOnWall, IsOpenAbove, covers_above, Meets}
use Rattle.slab_laws.specs.declared.slab_cell.SlabCell.{SlabCell}

-- the two points have one place; their weights may differ, since points on walls aren't in lowest terms
abbrev pub at_one_place : Point → Point → Bool
at_one_place p q = on_wall p q && (not (lower_than p q) && not (lower_than q p))

-- a vertex is at t
pub record HasVertexAt (g : Skeleton) (t : Point) : Type 0 where
  pub vertex : Point
  pub is_vertex : Contains g.vertices vertex
  pub there : at_one_place vertex t ≡ true

-- an edge passes through the wall of t at t
pub record HasEdgeThrough (g : Skeleton) (t : Point) : Type 0 where
  pub edge : Edge
  pub is_edge : Contains g.edges edge
  pub through : passes t edge ≡ true
  pub there : side edge t ≡ pos 0

-- a stop of a wall: one of its vertices, or a point where an edge passes through it
pub record IsStop (g : Skeleton) (t : Point) : Type 0 where
  pub wall : IsOnWall g t
  pub met : HasVertexAt g t ⊎ HasEdgeThrough g t

-- ---- the interval of a wall that t is on: from its lower stop, which t may be, to its upper one
-- s is the highest stop of t's wall that isn't above t
pub record IsLowerStop (g : Skeleton) (t s : Point) : Type 0 where
  pub stop : IsStop g s
  pub wall : on_wall s t ≡ true
  pub below : lower_than t s ≡ false
  pub nearest : (r : Point) → IsStop g r → on_wall r t ≡ true → lower_than t r ≡ false → lower_than s r ≡ false

-- s is the lowest stop of t's wall above t
pub record IsUpperStop (g : Skeleton) (t s : Point) : Type 0 where
  pub stop : IsStop g s
  pub wall : on_wall s t ≡ true
  pub above : lower_than t s ≡ true
  pub nearest : (r : Point) → IsStop g r → on_wall r t ≡ true → lower_than t r ≡ true → lower_than r s ≡ false

-- the ends of the edge are the two stops of t's interval
pub record HasStopsAsEnds (g : Skeleton) (t : Point) (e : Edge) : Type 0 where
  pub from : IsLowerStop g t e.low
  pub to : IsUpperStop g t e.high

-- t's interval is covered: a vertical edge has its two stops as ends
abbrev pub IsCovered : Skeleton → Point → Type 0
IsCovered g t = (e : Edge) × Contains g.edges e × HasStopsAsEnds g t e

-- t is below all stops of its wall
abbrev pub IsBelowStops : Skeleton → Point → Type 0
IsBelowStops g t = (s : Point) → IsStop g s → on_wall s t ≡ true → lower_than t s ≡ true

-- the cells that t's interval borders, left and right: above exactly the edges that reach the wall at or below its lower stop, and above none where it has no lower stop
pub data Borders (g : Skeleton) (t : Point) : SlabCell → SlabCell → Type 0 where
  above_stop : (s : Point) → IsLowerStop g t s → Borders g t (left_cell g s) (right_cell g s)
  below_stops : IsBelowStops g t → Borders g t (record { slab = slab_left g t; place = 0 }) (record { slab = slab_right g t; place = 0 })

-- ---- the laws
-- an edge that covers the wall directly above t covers t's interval whole
abbrev pub CoversWholeIntervals : Type 0
CoversWholeIntervals = (g : Skeleton) (t : Point) (e : Edge) → IsPlaneSkeleton g → HasWeight t → Contains g.edges e
    → (covers_above e t ≡ true) ↔ HasStopsAsEnds g t e

-- above a stop: its lower end is there, and its upper end is the next stop
abbrev pub CoversFromStops : Type 0
CoversFromStops = (g : Skeleton) (t : Point) (e : Edge) → IsPlaneSkeleton g → IsStop g t → Contains g.edges e
    → (covers_above e t ≡ true) ↔ ((at_one_place e.low t ≡ true) × IsUpperStop g t e.high)

-- a wall is open above t exactly where t's interval isn't covered
abbrev pub OpenIsUncovered : Type 0
OpenIsUncovered = (g : Skeleton) (t : Point) → IsPlaneSkeleton g → HasWeight t → IsOpenAbove g t ↔ (¬ IsCovered g t)

-- the cells that the interval of a wall's point borders are those beside the point
abbrev pub BorderAsBeside : Type 0
BorderAsBeside = (g : Skeleton) (t : Point) (c d : SlabCell) → IsPlaneSkeleton g → IsOnWall g t
    → Borders g t c d ↔ ((c ≡ left_cell g t) × (d ≡ right_cell g t))

-- two cells meet exactly where some interval borders both and isn't covered
abbrev pub MeetAcrossIntervals : Type 0
MeetAcrossIntervals = (g : Skeleton) (c d : SlabCell) → IsPlaneSkeleton g
    → Meets g c d ↔ ((t : Point) × IsOnWall g t × (¬ IsCovered g t) × Borders g t c d)
