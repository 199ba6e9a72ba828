-- What is on the boundary of a face, and how much that is.
use Rattle.std.specs.Prelude.{◌≡◌, ℕ, ◌+◌, ◌==◌}
use Rattle.std.specs.List.{count_by}
use Rattle.slab_laws.specs.declared.names.CycleId.{CycleId}
use Rattle.slab_laws.specs.declared.names.FaceId.{FaceId}
use Rattle.slab_laws.specs.View.{View, Faces, HasVertex, HasDart, HasBareFace, cycle_in, face_in, bare_face_in}
use Rattle.arr_notes.specs.CycleNames.{dart_names}
use Rattle.dcel_records.specs.declared.spot.Spot.{Spot}
use Rattle.dcel_records.specs.declared.spot.Spot.TheVariants.{Vertex, Edge}
use Rattle.counted_looks.specs.declared.boundary_part.BoundaryPart.{BoundaryPart}
use Rattle.counted_looks.specs.declared.boundary_part.BoundaryPart.TheVariants.{Dart, Isolated}

-- the dart or the vertex has a record
abbrev pub HasPart : View → BoundaryPart → Type 0
HasPart v (Dart d) = HasDart v d
HasPart v (Isolated w) = HasVertex v w

-- the part as a look is told it: a dart, whichever way it goes, or a vertex (this project)
abbrev pub spot_of : BoundaryPart → Spot
spot_of (Dart d) = Edge d
spot_of (Isolated w) = Vertex w

-- it is on the boundary of the face: a dart whose cycle bounds it, or a vertex without darts that lies in it (CGAL manual, outer and inner boundaries and isolated vertices of a face)
abbrev pub IsOnBoundary : View → Faces → FaceId → BoundaryPart → Type 0
IsOnBoundary v f a (Dart d) = HasDart v d × (face_in f (cycle_in f d) ≡ a)
IsOnBoundary v f a (Isolated w) = HasBareFace f w × (bare_face_in f w ≡ a)

-- how many darts a cycle has, by the table
abbrev pub cycle_size : View → Faces → CycleId → ℕ
cycle_size v f c = count_by (λ d. (cycle_in f d).0 == c.0) (dart_names v)

-- how many darts have the face on their left
abbrev pub dart_size : View → Faces → FaceId → ℕ
dart_size v f a = count_by (λ d. (face_in f (cycle_in f d)).0 == a.0) (dart_names v)

-- how many isolated vertices lie in the face
abbrev pub isolated_size : Faces → FaceId → ℕ
isolated_size f a = count_by (λ r. r.1.0 == a.0) f.bare

-- the darts and the isolated vertices on the boundary of the face (Fogel, Halperin and Wein, complexity of a face)
abbrev pub boundary_size : View → Faces → FaceId → ℕ
boundary_size v f a = dart_size v f a + isolated_size f a
