-- Weights of the edges above a cell: parity.
use Rattle.std.specs.Prelude.{◌≡◌, ℕ, ◌+◌, ◌%◌, cond, ◌&&◌}
use Rattle.std.specs.List.{Contains, sum_by}
use lib.Dec.{leb}
use Rattle.exact_plane.specs.Point.{Point}
use Rattle.plane_graphs.specs.Graph.{Edge}
use Rattle.slab_laws.specs.Skeleton.{Skeleton, same_point, over}
use Rattle.slab_laws.specs.Meets.{covers_above}
use Rattle.slab_laws.specs.Slabs.{reaches_left, reaches_right, spans, place}

-- a number without remainder by 2
abbrev pub Even : ℕ → Type 0
Even n = n % 2 ≡ 0

-- the weight of the edges above cell (i, j)
abbrev pub weight_above : Skeleton → (Edge → ℕ) → ℕ → ℕ → ℕ
weight_above g m i j = sum_by (λ e. cond (spans g i e && leb j (place g i e)) (m e) 0) g.edges

-- the weights of the edges that end at v, an edge once for each end there (this project)
abbrev pub at_end : (Edge → ℕ) → Point → Edge → ℕ
at_end m v e = cond (same_point e.low v) (m e) 0 + cond (same_point e.high v) (m e) 0

-- around each vertex the weights add up to an even number, as those of closed walks do (this project)
pub record IsEvenAtVertices (g : Skeleton) (m : Edge → ℕ) : Type 0 where
  pub even_at : (v : Point) → Contains g.vertices v → Even (sum_by (at_end m v) g.edges)

-- the weights of the edges that reach the wall strictly above t, from its left and from its right
abbrev pub left_weight : Skeleton → (Edge → ℕ) → Point → ℕ
left_weight g m t = sum_by (λ e. cond (reaches_left e t && over e t) (m e) 0) g.edges

abbrev pub right_weight : Skeleton → (Edge → ℕ) → Point → ℕ
right_weight g m t = sum_by (λ e. cond (reaches_right e t && over e t) (m e) 0) g.edges

-- the weights of the vertical edges that cover the wall just above t
abbrev pub cover_weight : Skeleton → (Edge → ℕ) → Point → ℕ
cover_weight g m t = sum_by (λ e. cond (covers_above e t) (m e) 0) g.edges
