-- The darts that a face keeps for its boundaries, as the records list them.
use Rattle.std.specs.Prelude.{List, map, filter}
use Rattle.slab_laws.specs.declared.names.CycleKind.{CycleKind}
use Rattle.slab_laws.specs.declared.names.DartId.{DartId}
use Rattle.slab_laws.specs.declared.names.FaceId.{FaceId}
use Rattle.slab_laws.specs.FaceLists.{Lists}
use Rattle.slab_laws.specs.View.{Faces, kind_in}
use Rattle.listed_faces.specs.FaceParts.{is_kind}

-- the darts that are kept for the boundaries of this kind, in the order of the face's list
abbrev pub kept_darts : Faces → Lists → FaceId → CycleKind → List DartId
kept_darts f l a k = map l.dart_on (filter (λ c. is_kind k (kind_in f c)) (l.cycles a))
