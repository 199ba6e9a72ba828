-- The walk from the face of a landmark to a point.
use Rattle.std.specs.Prelude.{◌≡◌, ◌==◌, Bool, false, cond, Option, Some, None}
use Rattle.exact_plane.specs.Point.{Point}
use Rattle.slab_laws.specs.declared.names.DartId.{DartId}
use Rattle.slab_laws.specs.declared.names.FaceId.{FaceId}
use Rattle.slab_laws.specs.View.{View, Faces, HasFace, twin_in, cycle_in, face_in}
use Rattle.locate_landmarks.specs.Lowest.{IsAbove, IsEntry}
use Rattle.locate_landmarks.specs.declared.above.EdgeAbove.{EdgeAbove}

abbrev pub dart_above : Option EdgeAbove → Option DartId
dart_above None = None
dart_above (Some a) = Some a.dart

-- the face on the right of a dart; with none, the face itself (CGAL manual, halfedge)
abbrev pub face_beside : View → Faces → FaceId → Option DartId → FaceId
face_beside v f a None = a
face_beside v f a (Some d) = face_in f (cycle_in f (twin_in v d))

-- a dart, or its twin
abbrev pub dart_towards : View → DartId → Bool → DartId
dart_towards v d b = cond b d (twin_in v d)

-- whether it is that dart
abbrev pub is_dart : Option DartId → DartId → Bool
is_dart None d = false
is_dart (Some e) d = e.0 == d.0

-- the walk is in the face below the lowest edge above the point, into which it came below an edge above the point (this project)
pub record IsUnder (v : View) (f : Faces) (q : Point) (a : FaceId) (o : Option EdgeAbove) (e : Option DartId) : Type 0 where
  pub has : HasFace f a
  pub lowest : IsAbove v q o
  pub under : face_beside v f a (dart_above o) ≡ a
  pub entry : IsEntry v q e
