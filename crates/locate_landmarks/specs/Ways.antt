-- The way of a query from the face of its landmark to its point, and how much is on the boundaries of the faces that it passes.
-- A list of darts goes from the last one on the way back to the first.
use Rattle.std.specs.Option.{option_map}
use Rattle.std.specs.Prelude.{◌≡◌, ◌≢◌, ◌⊎◌, ◌<◌, ⊤, ℕ, ◌+◌, Bool, true, List, [], ◌∷◌, Option, Some}
use Rattle.exact_plane.specs.Point.{Point}
use Rattle.slab_laws.specs.declared.names.DartId.{DartId}
use Rattle.slab_laws.specs.declared.names.FaceId.{FaceId}
use Rattle.slab_laws.specs.FaceLists.{first_of}
use Rattle.slab_laws.specs.Sound.{skeleton_of, edge_in}
use Rattle.slab_laws.specs.View.{View, Faces, HasBareFace, IsOutOf, twin_in, cycle_in, face_in, bare_face_in}
use Rattle.arr_notes.specs.Curves.{IsForward}
use Rattle.counted_looks.specs.Boundaries.{boundary_size}
use Rattle.dcel_records.specs.RecordsView.{RecordsView, tables_of}
use Rattle.dcel_records.specs.declared.spot.Spot.{Spot}
use Rattle.dcel_records.specs.declared.spot.Spot.TheVariants as spot
use Rattle.face_location.specs.Below.{IsSeenOrNone}
use Rattle.face_location.specs.Spots.{IsSpotOf}
use Rattle.walk_laws.specs.Walks.{IsBoundaryPassed, size_ahead}
use Rattle.locate_landmarks.specs.Courses.{course_to, IsLandmarkOf}
use Rattle.locate_landmarks.specs.Floors.{IsSeenAbove, floor}
use Rattle.locate_landmarks.specs.Grid.{landmark_at}
use Rattle.locate_landmarks.specs.Horizontals.{IsCrossed, IsLater}
use Rattle.locate_landmarks.specs.declared.course.Course.{Course}

-- ---- from face to face
-- how many darts and isolated vertices are on the boundary of the face
abbrev pub size_of : RecordsView → FaceId → ℕ
size_of h a = boundary_size h.graph (tables_of h) a

-- the face to which a way has come over the edges of darts, each with that face on its right; over none, the one from which it starts
abbrev pub face_after : RecordsView → FaceId → List DartId → FaceId
face_after h a [] = a
face_after h a (d ∷ ds) = face_in (tables_of h) (cycle_in (tables_of h) (twin_in h.graph d))

-- the sizes of the boundaries of the faces that it passes: that of the first one, and of the one behind each dart
abbrev pub size_along : RecordsView → FaceId → List DartId → ℕ
size_along h a [] = size_of h a
size_along h a (d ∷ ds) = size_of h (face_after h a (d ∷ ds)) + size_along h a ds

-- ---- along the horizontal
-- each edge is crossed on the way from the landmark to the vertical of the point, later than the one before, into another face
abbrev pub LeadsAlong : RecordsView → Course → FaceId → List DartId → Type 0
LeadsAlong h c a [] = ⊤
LeadsAlong h c a (d ∷ ds) = LeadsAlong h c a ds × IsCrossed h.graph c d × IsLater h.graph c (first_of ds) d × (face_after h a (d ∷ ds) ≢ face_after h a ds)

-- ---- down along the vertical
-- how many edges of the slab of the point are below the edge of a dart; above all edges at first
abbrev pub floor_of : View → Point → Option DartId → ℕ
floor_of v q o = floor (skeleton_of v) q (option_map (edge_in v) o)

-- the dart goes forward along an edge that the point sees above it
abbrev pub IsDartAbove : View → Point → DartId → Type 0
IsDartAbove v q d = IsForward v d × IsSeenAbove (skeleton_of v) q (edge_in v d)

-- on the way down, the point sees each edge above it, lower than the one before, and the way goes on below it, into another face; on the way up there is none
abbrev pub LeadsDown : RecordsView → Point → Bool → FaceId → List DartId → Type 0
LeadsDown h q b a [] = ⊤
LeadsDown h q b a (d ∷ ds) =
    LeadsDown h q b a ds × (b ≡ true) × IsDartAbove h.graph q d × (floor_of h.graph q (Some d) < floor_of h.graph q (first_of ds)) × (face_after h a (d ∷ ds) ≢ face_after h a ds)

-- ---- up along the vertical
-- it ends in the face to which it has come, or goes up from the edge of a forward dart, or from the unbounded face
pub data WayEnd : Type 0 where
  Here : WayEnd
  UpFrom : Option DartId → WayEnd

-- the point sees that edge below it, and on the boundary of the face no higher one
abbrev pub EndsBy : RecordsView → Point → FaceId → WayEnd → Type 0
EndsBy h q a Here = ⊤
EndsBy h q a (UpFrom o) = IsSeenOrNone h.graph q o × IsBoundaryPassed h.graph (tables_of h) q o a

-- the sizes of the boundaries of the faces over that edge and over the higher ones below the point, each face once (CGAL manual, walk along a line)
abbrev pub size_up : RecordsView → Point → WayEnd → ℕ
size_up h q Here = 0
size_up h q (UpFrom o) = size_ahead (size_of h) h.graph (tables_of h) q o

-- ---- the whole way
-- along the vertical: below which edges it leads down, and how it ends
pub record Upright : Type 0 where
  pub down : List DartId
  pub end : WayEnd

pub record IsUpright (h : RecordsView) (q : Point) (downward : Bool) (a : FaceId) (u : Upright) : Type 0 where
  pub down : LeadsDown h q downward a u.down
  pub end : EndsBy h q (face_after h a u.down) u.end

abbrev pub upright_size : RecordsView → Point → FaceId → Upright → ℕ
upright_size h q a u = size_along h a u.down + size_up h q u.end

-- from which face it starts, over which edges it leads along the horizontal, and how it goes on along the vertical
pub record Way : Type 0 where
  pub start : FaceId
  pub along : List DartId
  pub upright : Upright

-- the face at its corner
abbrev pub corner_face : RecordsView → Way → FaceId
corner_face h w = face_after h w.start w.along

pub record IsWay (h : RecordsView) (c : Course) (w : Way) : Type 0 where
  pub along : LeadsAlong h c w.start w.along
  pub upright : IsUpright h c.point c.downward (corner_face h w) w.upright

-- the sizes of the boundaries of the faces that it passes; that at the corner comes once along the horizontal and once along the vertical
abbrev pub way_size : RecordsView → Point → Way → ℕ
way_size h q w = size_along h w.start w.along + upright_size h q (corner_face h w) w.upright

-- ---- from a landmark
-- a face at a spot: the one that it is in, or one that borders it
abbrev pub IsFaceAt : View → Faces → Spot → FaceId → Type 0
IsFaceAt v f (spot.Face b) a = a ≡ b
IsFaceAt v f (spot.Edge d) a = a ≡ face_in f (cycle_in f d)
IsFaceAt v f (spot.Vertex x) a = ((d : DartId) × IsOutOf v x d × (a ≡ face_in f (cycle_in f d))) ⊎ (HasBareFace f x × (a ≡ bare_face_in f x))

-- the way starts in a face at the landmark of the point, and takes the course from there
pub record IsWayFrom (h : RecordsView) (q : Point) (k : ℕ) (w : Way) : Type 0 where
  pub landmark : IsLandmarkOf q k
  pub start : (s : Spot) × IsSpotOf h.graph (tables_of h) (landmark_at k) s × IsFaceAt h.graph (tables_of h) s w.start
  pub way : IsWay h (course_to q k) w

-- it is the size of such a way
abbrev pub IsSizeOfWay : RecordsView → Point → ℕ → Type 0
IsSizeOfWay h q n = (k : ℕ) × (w : Way) × IsWayFrom h q k w × (n ≡ way_size h q w)
