-- Slabs, the strips between walls, and their cells, told apart by how many edges lie below.
use Rattle.std.specs.Prelude.{ℕ, ◌+◌, Bool, not, ◌&&◌}
use Rattle.std.specs.List.{count_by}
use lib.Dec.{ltb, leb}
use Rattle.exact_plane.specs.Point.{Point}
use Rattle.plane_graphs.specs.Graph.{Edge}
use Rattle.slab_laws.specs.declared.slab_cell.SlabCell.{SlabCell}
use Rattle.slab_laws.specs.Skeleton.{Skeleton, left_of, over, under, below}

-- the edge is in the slab directly to the left, or to the right, of the wall through t
abbrev pub reaches_left : Edge → Point → Bool
reaches_left e t = left_of e.low t && not (left_of e.high t)

-- it is in the slab directly to the right (this project)
abbrev pub reaches_right : Edge → Point → Bool
reaches_right e t = not (left_of t e.low) && left_of t e.high

-- ---- slabs are told apart by how many vertices lie to their left
abbrev pub slab_left : Skeleton → Point → ℕ
slab_left g t = count_by (λ v. left_of v t) g.vertices

-- the slab directly to the right of the wall of t (this project)
abbrev pub slab_right : Skeleton → Point → ℕ
slab_right g t = count_by (λ v. not (left_of t v)) g.vertices

-- the edge reaches from wall to wall of the slab (this project)
abbrev pub spans : Skeleton → ℕ → Edge → Bool
spans g i e = leb (slab_right g e.low) i && ltb i (slab_right g e.high)

-- how many of the slab's edges are below the edge (Fogel, Halperin and Wein: status order of the sweep)
abbrev pub place : Skeleton → ℕ → Edge → ℕ
place g i e = count_by (λ f. spans g i f && below f e) g.edges

-- how many edges reach the wall of t from the left at t or below it (this project)
abbrev pub left_count : Skeleton → Point → ℕ
left_count g t = count_by (λ e. reaches_left e t && not (over e t)) g.edges

-- how many reach it from the right (this project)
abbrev pub right_count : Skeleton → Point → ℕ
right_count g t = count_by (λ e. reaches_right e t && not (over e t)) g.edges

-- the cell directly to the left of t (this project)
abbrev pub left_cell : Skeleton → Point → SlabCell
left_cell g t = record { slab = slab_left g t; place = left_count g t }

-- the cell directly to the right of t (this project)
abbrev pub right_cell : Skeleton → Point → SlabCell
right_cell g t = record { slab = slab_right g t; place = right_count g t }

-- ---- the cells on the left of an edge's two darts, for an edge that isn't vertical: in the first slab that it spans
abbrev pub forward_cell : Skeleton → Edge → SlabCell
forward_cell g e = record { slab = slab_right g e.low; place = place g (slab_right g e.low) e + 1 }

-- below the edge (this project)
abbrev pub backward_cell : Skeleton → Edge → SlabCell
backward_cell g e = record { slab = slab_right g e.low; place = place g (slab_right g e.low) e }

-- how many edges reach the wall of t from the left, or from the right, strictly below t (this project)
abbrev pub left_below : Skeleton → Point → ℕ
left_below g t = count_by (λ e. reaches_left e t && under e t) g.edges

abbrev pub right_below : Skeleton → Point → ℕ
right_below g t = count_by (λ e. reaches_right e t && under e t) g.edges

-- ---- the four corners at a vertex: at its left, below and above the edges that end there; at its right, likewise
abbrev pub left_bottom : Skeleton → Point → SlabCell
left_bottom g v = record { slab = slab_left g v; place = left_below g v }

abbrev pub left_top : Skeleton → Point → SlabCell
left_top g v = left_cell g v

abbrev pub right_top : Skeleton → Point → SlabCell
right_top g v = right_cell g v

abbrev pub right_bottom : Skeleton → Point → SlabCell
right_bottom g v = record { slab = slab_right g v; place = right_below g v }

-- ---- the topmost cell of a slab; that of slab 0 is the unbounded cell
unfoldable pub width : Skeleton → ℕ → ℕ
width g i = count_by (spans g i) g.edges

unfoldable pub top_cell : Skeleton → ℕ → SlabCell
top_cell g i = record { slab = i; place = width g i }
