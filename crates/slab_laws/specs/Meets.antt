-- Walls, and the cells that meet across them; a face is a class of cells joined by meets.
use Rattle.std.specs.Prelude.{◌≡◌, Bool, true, false, not, ◌&&◌}
use Rattle.std.specs.List.{Contains}
use Rattle.exact_plane.specs.Point.{Point}
use Rattle.plane_graphs.specs.Graph.{Edge}
use Rattle.slab_laws.specs.declared.slab_cell.SlabCell.{SlabCell}
use Rattle.slab_laws.specs.Skeleton.{Skeleton, HasWeight, lower_than, on_wall}
use Rattle.slab_laws.specs.Slabs.{left_cell, right_cell}

-- a vertical edge covers the part of the wall just above t
abbrev pub covers_above : Edge → Point → Bool
covers_above e t =
    on_wall e.low t && on_wall e.high t && not (lower_than t e.low) && lower_than t e.high

-- no vertical edge covers the wall just above t (this project)
pub record IsOpenAbove (g : Skeleton) (t : Point) : Type 0 where
  pub open_at : (e : Edge) → Contains g.edges e → covers_above e t ≡ false

-- a point whose abscissa is a vertex's
pub record IsOnWall (g : Skeleton) (t : Point) : Type 0 where
  pub proper : HasWeight t
  pub vertex : Point
  pub is_vertex : Contains g.vertices vertex
  pub same : on_wall vertex t ≡ true

-- two cells beside one point of a wall that is open there (Fogel, Halperin and Wein: trapezoids that share a vertical side)
pub data Meets (g : Skeleton) : SlabCell → SlabCell → Type 0 where
  across : (t : Point) → IsOnWall g t → IsOpenAbove g t → Meets g (left_cell g t) (right_cell g t)

-- cells joined by a chain of meets: a face is a class of them (Fogel, Halperin and Wein: connected open components)
pub data SameFace (g : Skeleton) : SlabCell → SlabCell → Type 0 where
  here : (c : SlabCell) → SameFace g c c
  right : (b c d : SlabCell) → SameFace g b c → Meets g c d → SameFace g b d
  left : (b c d : SlabCell) → SameFace g b c → Meets g d c → SameFace g b d
