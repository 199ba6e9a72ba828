-- What holds of every face, beside an edge or not: how many outer cycles it has, and that location names it by its rank.
use Rattle.std.specs.Prelude.{◌≡◌, ℕ, ◌+◌, cond, Some}
use Rattle.std.specs.List.{Contains, count_by, slice_get}
use Rattle.exact_plane.specs.Point.{Point}
use Rattle.slab_laws.specs.declared.slab_cell.SlabCell.{SlabCell}
use Rattle.slab_laws.specs.declared.cell.Cell.TheVariants.{Face}
use Rattle.slab_laws.specs.Skeleton.{Skeleton, HasWeight, IsPlaneSkeleton}
use Rattle.slab_laws.specs.Slabs.{left_cell, top_cell}
use Rattle.slab_laws.specs.Weights.{Even}
use Rattle.slab_laws.specs.Faces.{face_labels, face_of, same_cell, cells}
use Rattle.slab_laws.specs.Subdivision.{subdivision, holds}
use Rattle.slab_faces.specs.CycleLaws.{bounds}

-- a bounded face has an odd number of outer cycles, the unbounded one an even number: for the face of any cell
abbrev pub OuterCyclesOfEveryFace : Type 0
OuterCyclesOfEveryFace =
    (g : Skeleton) (c : SlabCell) → IsPlaneSkeleton g → Contains (cells g) c → Even (count_by (bounds (face_of (face_labels g) c)) (subdivision g).cycles + 1 + cond (same_cell (face_of (face_labels g) (top_cell g 0)) (face_of (face_labels g) c)) 1 0)

-- the rank that location answers for q is that of the face of q's cell
abbrev pub FaceIsTheCells : Type 0
FaceIsTheCells =
    (g : Skeleton) (q : Point) (k : ℕ) → IsPlaneSkeleton g → HasWeight q → holds (subdivision g) q ≡ Face k → slice_get (subdivision g).faces k ≡ Some (face_of (face_labels g) (left_cell g q))
