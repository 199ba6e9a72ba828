-- What the records of an arrangement mean: tables of vertices, darts, cycles and faces by name.
use Rattle.std.specs.Prelude.{◌≡◌, ℕ, pos, Bool, false, List, Option, Some, None, IsSome, Contains}
use Rattle.std.specs.Option.{option_map}
use Rattle.exact_plane.specs.Point.{Point}
use Rattle.exact_plane.specs.Line.{Line}
use Rattle.slab_laws.specs.declared.names.CurveId.{CurveId}
use Rattle.slab_laws.specs.declared.names.CycleId.{CycleId}
use Rattle.slab_laws.specs.declared.names.CycleKind.{CycleKind}
use Rattle.slab_laws.specs.declared.names.CycleKind.TheVariants.{Inner}
use Rattle.slab_laws.specs.declared.names.DartId.{DartId}
use Rattle.slab_laws.specs.declared.names.FaceId.{FaceId}
use Rattle.slab_laws.specs.declared.names.VertexId.{VertexId}
use Rattle.slab_laws.specs.Tables.{row_at, names, name_after}

-- a vertex: its point, and whether it is pinned
pub record VertexRecord : Type 0 where
  pub point : Point
  pub pinned : Bool

-- a dart (a halfedge): the vertex that it leaves, its opposite, the dart that follows it on its cycle, and the line of the pieces that hold its edge (de Berg and others, doubly-connected edge list)
pub record DartRecord : Type 0 where
  pub source : VertexId
  pub twin : DartId
  pub next : DartId
  pub line : Line

-- the graph part: vertices and darts by name
pub record View : Type 0 where
  pub vertices : List (ℕ × VertexRecord)
  pub darts : List (ℕ × DartRecord)

-- a cycle: whether it bounds its face from outside, and that face
pub record CycleRecord : Type 0 where
  pub kind : CycleKind
  pub face : FaceId

-- the part of cycles and faces: the cycle of each dart, the face of each vertex without darts, the cycles, and the names of the faces
pub record Faces : Type 0 where
  pub cycle_of : List (ℕ × CycleId)
  pub bare : List (ℕ × FaceId)
  pub cycles : List (ℕ × CycleRecord)
  pub faces : List ℕ

-- a number as a name
abbrev pub vertex_id : ℕ → VertexId
vertex_id n = record { 0 = n }

abbrev pub dart_id : ℕ → DartId
dart_id n = record { 0 = n }

abbrev pub cycle_id : ℕ → CycleId
cycle_id n = record { 0 = n }

abbrev pub face_id : ℕ → FaceId
face_id n = record { 0 = n }

abbrev pub curve_id : ℕ → CurveId
curve_id n = record { 0 = n }

-- ---- vertices and darts
-- the name has a record
abbrev pub HasVertex : View → VertexId → Type 0
HasVertex v w = IsSome (row_at v.vertices w.0)

abbrev pub HasDart : View → DartId → Type 0
HasDart v d = IsSome (row_at v.darts d.0)

abbrev pub point_or : Option VertexRecord → Point
point_or None = record { x = pos 0; y = pos 0; w = pos 1 }
point_or (Some r) = r.point

abbrev pub pin_or : Option VertexRecord → Bool
pin_or None = false
pin_or (Some r) = r.pinned

abbrev pub source_or : Option DartRecord → VertexId
source_or None = vertex_id 0
source_or (Some r) = r.source

abbrev pub twin_or : DartId → Option DartRecord → DartId
twin_or d None = d
twin_or d (Some r) = r.twin

abbrev pub next_or : DartId → Option DartRecord → DartId
next_or d None = d
next_or d (Some r) = r.next

abbrev pub line_or : Option DartRecord → Line
line_or None = record { a = pos 0; b = pos 0; c = pos 0 }
line_or (Some r) = r.line

-- the point of a vertex; without a record, the origin
abbrev pub point_in : View → VertexId → Point
point_in v w = point_or (row_at v.vertices w.0)

-- whether a vertex is pinned; without a record it isn't
abbrev pub pinned_in : View → VertexId → Bool
pinned_in v w = pin_or (row_at v.vertices w.0)

-- the vertex that a dart leaves; without a record, the one named 0
abbrev pub source_in : View → DartId → VertexId
source_in v d = source_or (row_at v.darts d.0)

-- the opposite dart; without a record, the dart itself
abbrev pub twin_in : View → DartId → DartId
twin_in v d = twin_or d (row_at v.darts d.0)

-- the dart that follows; without a record, the dart itself
abbrev pub next_in : View → DartId → DartId
next_in v d = next_or d (row_at v.darts d.0)

-- the vertex that a dart reaches
abbrev pub target_in : View → DartId → VertexId
target_in v d = source_in v (twin_in v d)

-- the line of a dart's edge; without a record, three zeros
abbrev pub line_in : View → DartId → Line
line_in v d = line_or (row_at v.darts d.0)

-- the next greater name of a vertex, or the least
abbrev pub vertex_after_in : View → Option VertexId → Option VertexId
vertex_after_in v w = option_map vertex_id (name_after (names v.vertices) (option_map (λ u. u.0) w))

-- the next greater name of a dart, or the least
abbrev pub dart_after_in : View → Option DartId → Option DartId
dart_after_in v d = option_map dart_id (name_after (names v.darts) (option_map (λ e. e.0) d))

-- the dart has a record and leaves the vertex
abbrev pub IsOutOf : View → VertexId → DartId → Type 0
IsOutOf v w d = HasDart v d × (source_in v d ≡ w)

-- ---- cycles and faces
-- the name has a record
abbrev pub HasCycle : Faces → CycleId → Type 0
HasCycle f c = IsSome (row_at f.cycles c.0)

abbrev pub HasFace : Faces → FaceId → Type 0
HasFace f c = Contains f.faces c.0

-- the vertex has a face of its own, since no dart leaves it
abbrev pub HasBareFace : Faces → VertexId → Type 0
HasBareFace f w = IsSome (row_at f.bare w.0)

abbrev pub cycle_or : Option CycleId → CycleId
cycle_or None = cycle_id 0
cycle_or (Some c) = c

abbrev pub kind_or : Option CycleRecord → CycleKind
kind_or None = Inner
kind_or (Some r) = r.kind

abbrev pub face_or : Option CycleRecord → FaceId
face_or None = face_id 0
face_or (Some r) = r.face

abbrev pub bare_or : Option FaceId → FaceId
bare_or None = face_id 0
bare_or (Some c) = c

-- the cycle of a dart; without one, the one named 0
abbrev pub cycle_in : Faces → DartId → CycleId
cycle_in f d = cycle_or (row_at f.cycle_of d.0)

-- the kind of a cycle; without a record, inner
abbrev pub kind_in : Faces → CycleId → CycleKind
kind_in f c = kind_or (row_at f.cycles c.0)

-- the face that a cycle bounds; without a record, the one named 0
abbrev pub face_in : Faces → CycleId → FaceId
face_in f c = face_or (row_at f.cycles c.0)

-- the face of a vertex without darts; without one, the one named 0
abbrev pub bare_face_in : Faces → VertexId → FaceId
bare_face_in f w = bare_or (row_at f.bare w.0)

-- the next greater name of a cycle, or the least
abbrev pub cycle_after_in : Faces → Option CycleId → Option CycleId
cycle_after_in f c = option_map cycle_id (name_after (names f.cycles) (option_map (λ e. e.0) c))

-- the next greater name of a face, or the least
abbrev pub face_after_in : Faces → Option FaceId → Option FaceId
face_after_in f c = option_map face_id (name_after f.faces (option_map (λ e. e.0) c))
