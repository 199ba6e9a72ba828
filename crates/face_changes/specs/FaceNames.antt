-- Names that tell faces: things that lie in cells have one name exactly where their cells are in one face. I is the things that are there,
-- `old` and `new` are their cells in g and in h, which has one more edge, with the dart x.
use Rattle.std.specs.Prelude.{◌≡◌, ◌≢◌, ◌↔◌, true}
use Rattle.slab_laws.specs.declared.slab_cell.SlabCell.{SlabCell}
use Rattle.slab_laws.specs.declared.names.FaceId.{FaceId}
use Rattle.slab_laws.specs.Skeleton.{Skeleton}
use Rattle.plane_graphs.specs.Graph.{Edge}
use Rattle.slab_laws.specs.Darts.{Dart}
use Rattle.slab_laws.specs.Meets.{SameFace}
use Rattle.slab_laws.specs.Cycles.{left_of_dart}
use Rattle.slab_laws.specs.Rows.{least_dart_of}
use Rattle.slab_laws.specs.Rotation.{twin}
use Rattle.face_changes.specs.Kinds.{odd_at}
use Rattle.face_changes.specs.OneMoreEdge.{IsOneMoreEdge, LiesIn, PartsCycle}

-- two things have one name exactly where they are in one face
abbrev pub NamesTellFaces : {I : Type 0} → Skeleton → (I → SlabCell) → (I → FaceId) → Type 0
NamesTellFaces {I} g cell name = (i j : I) → (name i ≡ name j) ↔ SameFace g (cell i) (cell j)

-- what is there lies in the same cells
abbrev pub AllLieIn : {I : Type 0} → Skeleton → Skeleton → Edge → (I → SlabCell) → (I → SlabCell) → Type 0
AllLieIn {I} g h e old new = (i : I) → LiesIn g h e (new i) (old i)

-- where the edge has one face on both sides, names go on telling faces, with it and without
abbrev pub FaceNamesStay : Type 0 → Type 0
FaceNamesStay I = (g h : Skeleton) (x : Dart) (old new : I → SlabCell) (name : I → FaceId) → IsOneMoreEdge g h x.edge → least_dart_of h x ≡ least_dart_of h (twin x) → AllLieIn g h x.edge old new → NamesTellFaces g old name ↔ NamesTellFaces h new name

-- what is in the face that is parted, and within the cycle of x, gets the fresh name; the rest keeps its own
pub record AreNamesParted {I : Type 0} (h : Skeleton) (x : Dart) (new : I → SlabCell) (name next : I → FaceId) (face fresh : FaceId) : Type 0 where
  pub fresh_one : (i : I) → name i ≢ fresh
  pub moved : (i : I) → name i ≡ face → odd_at h x (new i) ≡ true → next i ≡ fresh
  pub left : (i : I) → name i ≡ face → odd_at h x (new i) ≢ true → next i ≡ face
  pub others : (i : I) → name i ≢ face → next i ≡ name i

-- so names tell faces again where a cycle is parted; o is a thing in the face beside a (this project)
abbrev pub FaceNamesPart : Type 0 → Type 0
FaceNamesPart I =
    (g h : Skeleton) (x a : Dart) (old new : I → SlabCell) (name next : I → FaceId) (o : I) (fresh : FaceId) → IsOneMoreEdge g h x.edge → PartsCycle g h x a → AllLieIn g h x.edge old new → SameFace g (old o) (left_of_dart g a) → AreNamesParted h x new name next (name o) fresh → NamesTellFaces g old name → NamesTellFaces h new next

-- what had the name that goes gets the other one; the rest keeps its own
pub record AreNamesMerged {I : Type 0} (name next : I → FaceId) (kept gone : FaceId) : Type 0 where
  pub moved : (i : I) → name i ≡ gone → next i ≡ kept
  pub others : (i : I) → name i ≢ gone → next i ≡ name i

-- so names tell faces where two become one: o is beside x, and p beside its twin (this project)
abbrev pub FaceNamesMerge : Type 0 → Type 0
FaceNamesMerge I =
    (g h : Skeleton) (x a : Dart) (old new : I → SlabCell) (name next : I → FaceId) (o p : I) → IsOneMoreEdge g h x.edge → PartsCycle g h x a → AllLieIn g h x.edge old new → SameFace h (new o) (left_of_dart h x) → SameFace h (new p) (left_of_dart h (twin x)) → AreNamesMerged name next (name o) (name p) → NamesTellFaces h new name → NamesTellFaces g old next
