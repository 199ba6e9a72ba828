-- The ranks of the faces of cycles.
use Rattle.std.specs.Prelude.{◌≡◌, ◌<◌, ℕ, cond, List, length, slice_index_or}
use Rattle.exact_plane.specs.Point.{Point}
use Rattle.slab_laws.specs.Cycles.{left_of_dart}
use Rattle.slab_laws.specs.Faces.{face_labels, face_of}
use Rattle.slab_laws.specs.Rows.{lead_list}
use Rattle.slab_laws.specs.Skeleton.{Skeleton}
use Rattle.slab_laws.specs.Slabs.{left_cell}
use Rattle.slab_laws.specs.Subdivision.{subdivision, rank, has_dart}
use Rattle.face_roots.specs.CycleRanks.{lead_at}

-- of each cycle the rank of the face on the left of its darts (this project)
pub record AreCycleRanks (g : Skeleton) (ranks : List ℕ) : Type 0 where
  pub counted : length ranks ≡ length (lead_list g)
  pub each : (c : ℕ) → c < length (lead_list g) → slice_index_or ranks c 0 ≡ rank (subdivision g) (face_of (face_labels g) (left_of_dart g (lead_at g c)))

-- of a vertex without darts the rank of the face round it; of another vertex, 0 (CGAL manual, isolated vertex)
abbrev pub rank_round : Skeleton → Point → ℕ
rank_round g p = cond (has_dart g p) 0 (rank (subdivision g) (face_of (face_labels g) (left_cell g p)))
