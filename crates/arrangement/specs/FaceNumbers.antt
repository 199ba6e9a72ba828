-- The face that a point lies in, by its name, and the number by which texts and locations tell a face.
use Rattle.std.specs.Prelude.{◌≡◌, ◌≢◌, ℕ}
use Rattle.exact_plane.specs.Point.{Point}
use Rattle.slab_laws.specs.declared.cell.Cell.TheVariants.{Face}
use Rattle.slab_laws.specs.declared.names.DartId.{DartId}
use Rattle.slab_laws.specs.declared.names.FaceId.{FaceId}
use Rattle.slab_laws.specs.declared.names.VertexId.{VertexId}
use Rattle.slab_laws.specs.FacesSound.{face_left_of, face_round}
use Rattle.slab_laws.specs.Subdivision.{holds, rank}
use Rattle.slab_laws.specs.View.{HasDart, HasFace}
use Rattle.face_ranks.specs.Ranks.{rank_in}
use Rattle.arrangement.specs.Arranged.{Arranged, subdivision_by}
use Rattle.listed_faces.specs.FaceParts.{face_left, IsIsolatedIn}

-- the number of a face is its rank: that of the face on the left of each dart on its boundary, and of the one round each isolated vertex in it (this project)
pub record IsNumberOf (a : Arranged) (f : FaceId) (n : ℕ) : Type 0 where
  pub place : n ≡ rank_in a.graph a.faces f
  pub left : (d : DartId) → HasDart a.graph d → face_left a.faces d ≡ f → n ≡ rank (subdivision_by a) (face_left_of a.graph d)
  pub round : (w : VertexId) → IsIsolatedIn a.faces f w → n ≡ rank (subdivision_by a) (face_round a.graph w)

-- the point lies in the face (CGAL manual, point location)
pub record IsFaceAt (a : Arranged) (p : Point) (f : FaceId) : Type 0 where
  pub has : HasFace a.faces f
  pub located : holds (subdivision_by a) p ≡ Face (rank_in a.graph a.faces f)

-- the point is a vertex, or lies on an edge
abbrev pub IsInNoFace : Arranged → Point → Type 0
IsInNoFace a p = (n : ℕ) → holds (subdivision_by a) p ≢ Face n
