-- What the writers do to the lists of the faces, and to tables as a whole.
use Rattle.std.specs.Prelude.{◌==◌, List, [], ◌∷◌, not, cond}
use Rattle.std.specs.List.{filter}
use Rattle.slab_laws.specs.declared.names.CycleId.{CycleId}
use Rattle.slab_laws.specs.declared.names.DartId.{DartId}
use Rattle.slab_laws.specs.declared.names.FaceId.{FaceId}
use Rattle.slab_laws.specs.declared.names.VertexId.{VertexId}
use Rattle.slab_laws.specs.FaceLists.{Lists}
use Rattle.slab_laws.specs.View.{Faces, dart_id}

-- the unbounded face alone, under the name 0
abbrev pub lone_face : Faces
lone_face = record { cycle_of = []; bare = []; cycles = []; faces = 0 ∷ [] }

-- nothing is in any face
abbrev pub nothing_listed : Lists
nothing_listed = record { cycles = λ a. []; bare = λ a. []; dart_on = λ c. dart_id 0 }

-- a list without a cycle, or without a vertex
abbrev pub but_cycle : CycleId → List CycleId → List CycleId
but_cycle c xs = filter (λ x. not (x.0 == c.0)) xs

abbrev pub but_vertex : VertexId → List VertexId → List VertexId
but_vertex v xs = filter (λ x. not (x.0 == v.0)) xs

-- the cycle keeps this dart
abbrev pub dart_listed : CycleId → DartId → Lists → Lists
dart_listed c d l = record { cycles = l.cycles; bare = l.bare; dart_on = λ x. cond (x.0 == c.0) d (l.dart_on x) }

-- the cycle is the first of the face, and keeps this dart
abbrev pub cycle_listed : CycleId → FaceId → DartId → Lists → Lists
cycle_listed c a d l = record { cycles = λ b. cond (b.0 == a.0) (c ∷ l.cycles b) (l.cycles b); bare = l.bare; dart_on = λ x. cond (x.0 == c.0) d (l.dart_on x) }

-- the cycle is gone
abbrev pub cycle_unlisted : CycleId → Lists → Lists
cycle_unlisted c l = record { cycles = λ b. but_cycle c (l.cycles b); bare = l.bare; dart_on = λ x. cond (x.0 == c.0) (dart_id 0) (l.dart_on x) }

-- the cycle is the first of another face
abbrev pub cycle_relisted : CycleId → FaceId → Lists → Lists
cycle_relisted c a l = record { cycles = λ b. cond (b.0 == a.0) (c ∷ but_cycle c (l.cycles b)) (but_cycle c (l.cycles b)); bare = l.bare; dart_on = l.dart_on }

-- the vertex is the first of the face
abbrev pub vertex_listed : VertexId → FaceId → Lists → Lists
vertex_listed v a l = record { cycles = l.cycles; bare = λ b. cond (b.0 == a.0) (v ∷ l.bare b) (l.bare b); dart_on = l.dart_on }

-- the vertex is in no face's list
abbrev pub vertex_unlisted : VertexId → Lists → Lists
vertex_unlisted v l = record { cycles = l.cycles; bare = λ b. but_vertex v (l.bare b); dart_on = l.dart_on }

-- the vertex is the first of another face
abbrev pub vertex_relisted : VertexId → FaceId → Lists → Lists
vertex_relisted v a l = record { cycles = l.cycles; bare = λ b. cond (b.0 == a.0) (v ∷ but_vertex v (l.bare b)) (but_vertex v (l.bare b)); dart_on = l.dart_on }
