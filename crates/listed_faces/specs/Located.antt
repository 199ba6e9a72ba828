-- The face of a subdivision in lists that a point lies in: its name is its rank.
use Rattle.std.specs.Prelude.{◌≡◌, ◌≢◌, ℕ}
use Rattle.exact_plane.specs.Point.{Point}
use Rattle.slab_laws.specs.declared.cell.Cell.TheVariants.{Face}
use Rattle.slab_laws.specs.declared.names.FaceId.{FaceId}
use Rattle.slab_laws.specs.Subdivision.{holds}
use Rattle.slab_laws.specs.View.{HasFace}
use Rattle.subdivision_rows.specs.Listed.{Drawing, subdivision_in, faces_of}

-- the point lies in the face (CGAL manual, point location)
pub record IsListedFaceAt (d : Drawing) (p : Point) (a : FaceId) : Type 0 where
  pub has : HasFace (faces_of d) a
  pub located : holds (subdivision_in d) p ≡ Face a.0

-- the point is a vertex, or lies on an edge
abbrev pub IsInNoListedFace : Drawing → Point → Type 0
IsInNoListedFace d p = (n : ℕ) → holds (subdivision_in d) p ≢ Face n
