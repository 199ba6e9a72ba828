-- When cycles and faces stand for those of the plane graph that the view draws.
use Rattle.std.specs.Prelude.{◌≡◌, ◌↔◌, ◌<◌, true, Contains, IsSome}
use Rattle.slab_laws.specs.declared.names.CycleId.{CycleId}
use Rattle.slab_laws.specs.declared.names.CycleKind.TheVariants.{Outer}
use Rattle.slab_laws.specs.declared.names.DartId.{DartId}
use Rattle.slab_laws.specs.declared.names.FaceId.{FaceId}
use Rattle.slab_laws.specs.declared.names.VertexId.{VertexId}
use Rattle.slab_laws.specs.declared.slab_cell.SlabCell.{SlabCell}
use Rattle.slab_laws.specs.Classes.{class_of}
use Rattle.slab_laws.specs.Cycles.{dart_labels, odd, left_of_dart}
use Rattle.slab_laws.specs.Darts.{Dart, darts}
use Rattle.slab_laws.specs.Faces.{face_labels, face_of, cells}
use Rattle.slab_laws.specs.Rotation.{same_dart}
use Rattle.slab_laws.specs.Slabs.{left_cell}
use Rattle.slab_laws.specs.Subdivision.{first_cell}
use Rattle.slab_laws.specs.Tables.{row_at, names, NamesAscend}
use Rattle.slab_laws.specs.View.{View, Faces, HasVertex, HasDart, HasCycle, HasFace, HasBareFace, IsOutOf, point_in, cycle_in, kind_in, face_in, bare_face_in}
use Rattle.slab_laws.specs.Sound.{skeleton_of, dart_in, IsGraphSound}

-- the least dart of a dart's orbit under next
abbrev pub lead_in : View → DartId → Dart
lead_in v d = class_of same_dart (dart_labels (darts (skeleton_of v))) (dart_in v d)

-- the face of the cell on the left of a dart, by its least cell
abbrev pub face_left_of : View → DartId → SlabCell
face_left_of v d = face_of (face_labels (skeleton_of v)) (left_of_dart (skeleton_of v) (dart_in v d))

-- the face of the cell that a vertex without darts lies in, by its least cell
abbrev pub face_round : View → VertexId → SlabCell
face_round v w = face_of (face_labels (skeleton_of v)) (left_cell (skeleton_of v) (point_in v w))

-- names ascend; every dart has a cycle, every cycle a dart and a face, and the vertices without darts, they alone, a face of their own
pub record IsComplete (v : View) (f : Faces) : Type 0 where
  pub cycles_ascend : NamesAscend (names f.cycles)
  pub faces_ascend : NamesAscend f.faces
  pub cycle_of_ascend : NamesAscend (names f.cycle_of)
  pub bare_ascend : NamesAscend (names f.bare)
  pub cycle_rows : (d : DartId) → HasDart v d ↔ IsSome (row_at f.cycle_of d.0)
  pub cycle_has : (d : DartId) → HasDart v d → HasCycle f (cycle_in f d)
  pub dart_has : (c : CycleId) → HasCycle f c → (d : DartId) × HasDart v d × (cycle_in f d ≡ c)
  pub face_has : (c : CycleId) → HasCycle f c → HasFace f (face_in f c)
  pub bare : (w : VertexId) → HasVertex v w → HasBareFace f w ↔ ((d : DartId) → ¬ IsOutOf v w d)
  pub bare_vertex : (w : VertexId) → HasBareFace f w → HasVertex v w
  pub bare_has : (w : VertexId) → HasBareFace f w → HasFace f (bare_face_in f w)

-- two darts have one cycle exactly where they are in one orbit, whose parity at the left cell of its least dart is the cycle's kind
pub record IsCycled (v : View) (f : Faces) : Type 0 where
  pub orbits : (d e : DartId) → HasDart v d → HasDart v e → (cycle_in f d ≡ cycle_in f e) ↔ (lead_in v d ≡ lead_in v e)
  pub kind : (d : DartId) → HasDart v d → (kind_in f (cycle_in f d) ≡ Outer) ↔ (odd (skeleton_of v) (dart_labels (darts (skeleton_of v))) (lead_in v d) (left_of_dart (skeleton_of v) (lead_in v d)) ≡ true)

-- the cycle bounds the face from outside
abbrev pub IsOuterOf : Faces → FaceId → CycleId → Type 0
IsOuterOf f a c = HasCycle f c × (face_in f c ≡ a) × (kind_in f c ≡ Outer)

-- the least cell of a face that a record names; what bounds or holds something in it says which. That outer cycles are as told here follows from the rest
pub record IsFaced (v : View) (f : Faces) (cell : FaceId → SlabCell) : Type 0 where
  pub unbounded : (a : FaceId) → HasFace f a → ((b : FaceId) → HasFace f b → b.0 < a.0 → ⊥) → (cell a ≡ face_of (face_labels (skeleton_of v)) first_cell) × ((c : CycleId) → ¬ IsOuterOf f a c)
  pub bounded : (a b : FaceId) → HasFace f a → HasFace f b → b.0 < a.0 → (c : CycleId) × IsOuterOf f a c × ((e : CycleId) → IsOuterOf f a e → e ≡ c)
  pub darts : (d : DartId) → HasDart v d → cell (face_in f (cycle_in f d)) ≡ face_left_of v d
  pub bare : (w : VertexId) → HasBareFace f w → cell (bare_face_in f w) ≡ face_round v w
  pub differ : (a b : FaceId) → HasFace f a → HasFace f b → cell a ≡ cell b → a ≡ b
  pub all : (c : SlabCell) → Contains (cells (skeleton_of v)) c → (a : FaceId) × HasFace f a × (cell a ≡ face_of (face_labels (skeleton_of v)) c)

-- a sound view: the graph part, the cycles, and the faces
pub record IsSound (v : View) (f : Faces) : Type 0 where
  pub graph : IsGraphSound v
  pub complete : IsComplete v f
  pub cycled : IsCycled v f
  pub faced : (cell : FaceId → SlabCell) × IsFaced v f cell
