-- The face that lies ahead of a vertex: that of a point which the vertex sees, by the place of the direction round it.
use Rattle.std.specs.Prelude.{◌≡◌, true, Option, Some, None}
use Rattle.exact_plane.specs.Point.{Point}
use Rattle.plane_graphs.specs.Line.{IsProper}
use Rattle.slab_laws.specs.declared.names.DartId.{DartId}
use Rattle.slab_laws.specs.declared.names.FaceId.{FaceId}
use Rattle.slab_laws.specs.declared.names.VertexId.{VertexId}
use Rattle.slab_laws.specs.Skeleton.{Skeleton, inside}
use Rattle.slab_laws.specs.Sound.{skeleton_of, edge_between, IsGraphSound}
use Rattle.slab_laws.specs.View.{View, Faces, HasVertex, point_in, twin_in, cycle_in, face_in, bare_face_in}
use Rattle.slab_faces.specs.PointLaws.{IsApart}
use Rattle.sound_changes.specs.EdgePlaces.{dart_between, IsPlaceFor}
use Rattle.face_steps.specs.VertexSteps.{IsFaceRound}

-- p is on no vertex and no edge, and neither is any point strictly between q and p (book, visibility)
pub record IsSeenFrom (g : Skeleton) (q p : Point) : Type 0 where
  pub off : IsApart g p
  pub between : (t : Point) → IsProper t → inside (edge_between q p) t ≡ true → IsApart g t

-- the name that the tables have for the face at a place round the vertex: that of a vertex without darts, or that of the cycle of the dart before the place, which is the twin of the one that the place names (this project)
abbrev pub face_at_place : View → Faces → VertexId → Option DartId → FaceId
face_at_place v f u None = bare_face_in f u
face_at_place v f u (Some a) = face_in f (cycle_in f (twin_in v a))

-- a point that a vertex sees is in the face at the place of its direction (this project)
abbrev pub FacesAhead : Type 0
FacesAhead =
    (v : View) (f : Faces) (u : VertexId) (at : Option DartId) (p : Point) → IsGraphSound v → HasVertex v u → IsProper p → IsPlaceFor v u at (dart_between (point_in v u) p) → IsSeenFrom (skeleton_of v) (point_in v u) p → IsFaceRound v f (face_at_place v f u at) p
