-- The parts of a face by the names of records: its boundaries, and its isolated vertices.
use Rattle.std.specs.Prelude.{◌≡◌, List, map, Bool, not}
use Rattle.plane_graphs.specs.Ascending.{Member}
use Rattle.slab_laws.specs.declared.names.CycleId.{CycleId}
use Rattle.slab_laws.specs.declared.names.CycleKind.{CycleKind}
use Rattle.slab_laws.specs.declared.names.CycleKind.TheVariants.{Outer, Inner}
use Rattle.slab_laws.specs.declared.names.DartId.{DartId}
use Rattle.slab_laws.specs.declared.names.FaceId.{FaceId}
use Rattle.slab_laws.specs.declared.names.VertexId.{VertexId}
use Rattle.slab_laws.specs.Kinds.{is_outer}
use Rattle.slab_laws.specs.View.{View, Faces, HasDart, HasCycle, HasBareFace, cycle_in, face_in, kind_in, bare_face_in}
use Rattle.dart_walks.specs.DartWalks.{AreJust}

-- the face on the left of a dart
abbrev pub face_left : Faces → DartId → FaceId
face_left f d = face_in f (cycle_in f d)

-- the cycle bounds the face, and is of the kind (CGAL manual, outer and inner boundaries of a face)
pub record IsBoundaryOf (f : Faces) (a : FaceId) (k : CycleKind) (c : CycleId) : Type 0 where
  pub has : HasCycle f c
  pub face : face_in f c ≡ a
  pub kind : kind_in f c ≡ k

-- the darts are one on each boundary of this kind that the face has
pub record AreBoundariesOf (v : View) (f : Faces) (a : FaceId) (k : CycleKind) (ds : List DartId) : Type 0 where
  pub darts : (d : DartId) → Member d ds → HasDart v d
  pub cycles : AreJust (IsBoundaryOf f a k) (map (cycle_in f) ds)

-- the vertex has no dart, and lies in the face (CGAL manual, isolated vertices of a face)
abbrev pub IsIsolatedIn : Faces → FaceId → VertexId → Type 0
IsIsolatedIn f a w = HasBareFace f w × (bare_face_in f w ≡ a)

-- the kind is the one that is asked for
abbrev pub is_kind : CycleKind → CycleKind → Bool
is_kind Outer k = is_outer k
is_kind Inner k = not (is_outer k)
