-- One more edge, and sets of faces.
use Rattle.std.specs.Prelude.{◌≡◌, ℕ, ◌+◌, ◌-◌, Bool, true, cond, ◌&&◌}
use Rattle.std.specs.List.{Contains}
use lib.Dec.{ltb}
use Rattle.exact_plane.specs.Point.{Point}
use Rattle.plane_graphs.specs.Graph.{Edge}
use Rattle.slab_laws.specs.declared.slab_cell.SlabCell.{SlabCell}
use Rattle.slab_laws.specs.Skeleton.{Skeleton, left_of}
use Rattle.slab_laws.specs.Slabs.{slab_right, spans, place, forward_cell, backward_cell}
use Rattle.slab_laws.specs.Meets.{SameFace}

-- the cell of g that holds a cell of g with the edge e
abbrev pub merged : Skeleton → Edge → SlabCell → SlabCell
merged g e c =
    record { slab = c.slab; place = cond (spans g c.slab e && ltb (place g c.slab e) c.place) (c.place - 1) c.place }

-- the cell's slab is the one on the right of a vertex's wall, if e spans it
pub record IsCell (g : Skeleton) (e : Edge) (c : SlabCell) : Type 0 where
  pub beside : spans g c.slab e ≡ true → (w : Point) × Contains g.vertices w × (slab_right g w ≡ c.slab)

-- a set of faces: which cells belong to it, and how many of an edge's darts have their left cell in it
pub record IsFaceSet (g : Skeleton) (inn : SlabCell → Bool) (m : Edge → ℕ) : Type 0 where
  pub respects : (c d : SlabCell) → SameFace g c d → inn c ≡ inn d
  pub counts : (e : Edge) → Contains g.edges e → left_of e.low e.high ≡ true → m e ≡ cond (inn (forward_cell g e)) 1 0 + cond (inn (backward_cell g e)) 1 0
