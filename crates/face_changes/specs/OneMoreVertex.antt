-- A plane graph with one more vertex, on no edge: its wall parts cells, and no face.
use Rattle.std.specs.Prelude.{◌≡◌, ◌↔◌, ◌⊎◌, ◌+◌, ◌-◌, Bool, cond}
use Rattle.std.specs.List.{Contains, count_by}
use lib.Dec.{ltb}
use Rattle.exact_plane.specs.Point.{Point}
use Rattle.slab_laws.specs.declared.slab_cell.SlabCell.{SlabCell}
use Rattle.slab_laws.specs.Skeleton.{Skeleton, HasWeight, IsPlaneSkeleton}
use Rattle.slab_laws.specs.Slabs.{slab_left, left_cell, right_cell}
use Rattle.slab_laws.specs.Darts.{Dart}
use Rattle.slab_laws.specs.Meets.{SameFace}
use Rattle.slab_laws.specs.Cycles.{left_of_dart}
use Rattle.slab_laws.specs.Faces.{cells}
use Rattle.slab_laws.specs.Rows.{least_dart_of}
use Rattle.sound_changes.specs.NextLaws.{IsDartOf}
use Rattle.face_changes.specs.Kinds.{is_outer}

-- h has the edges of g, and the vertices of g and v
pub record HasOneMoreVertex (g h : Skeleton) (v : Point) : Type 0 where
  pub plane : IsPlaneSkeleton g
  pub plane_more : IsPlaneSkeleton h
  pub edges : h.edges ≡ g.edges
  pub vertices : (u : Point) → Contains h.vertices u ↔ (Contains g.vertices u ⊎ (u ≡ v))
  pub counts : (p : Point → Bool) → count_by p h.vertices ≡ cond (p v) 1 0 + count_by p g.vertices

-- the cell of g that holds a cell of h: slabs on the right of v have one number less
abbrev pub widened : Skeleton → Point → SlabCell → SlabCell
widened g v c = record { slab = cond (ltb (slab_left g v) c.slab) (c.slab - 1) c.slab; place = c.place }

-- with one more vertex the cells of points and of darts lie in the old ones; faces, cycles and kinds are the same
pub record OneMoreVertex : Type 0 where
  pub left : (g h : Skeleton) (v t : Point) → HasOneMoreVertex g h v → HasWeight t → widened g v (left_cell h t) ≡ left_cell g t
  pub right : (g h : Skeleton) (v t : Point) → HasOneMoreVertex g h v → HasWeight t → widened g v (right_cell h t) ≡ right_cell g t
  pub dart : (g h : Skeleton) (v : Point) (d : Dart) → HasOneMoreVertex g h v → IsDartOf g d → widened g v (left_of_dart h d) ≡ left_of_dart g d
  pub faces : (g h : Skeleton) (v : Point) (c d : SlabCell) → HasOneMoreVertex g h v → Contains (cells h) c → Contains (cells h) d → SameFace h c d ↔ SameFace g (widened g v c) (widened g v d)
  pub leads : (g h : Skeleton) (v : Point) (d : Dart) → HasOneMoreVertex g h v → least_dart_of h d ≡ least_dart_of g d
  pub kinds : (g h : Skeleton) (v : Point) (d : Dart) → HasOneMoreVertex g h v → IsDartOf g d → is_outer h d ≡ is_outer g d
