-- What is asked of each boundary, and of each vertex; and a dart on each boundary.
use Rattle.std.specs.Prelude.{◌≡◌, ◌==◌, ◌&&◌, Bool, List, map, is_some}
use Rattle.plane_graphs.specs.Ascending.{Member}
use Rattle.slab_laws.specs.declared.names.CycleId.{CycleId}
use Rattle.slab_laws.specs.declared.names.CycleKind.{CycleKind}
use Rattle.slab_laws.specs.declared.names.DartId.{DartId}
use Rattle.slab_laws.specs.declared.names.FaceId.{FaceId}
use Rattle.slab_laws.specs.declared.names.VertexId.{VertexId}
use Rattle.slab_laws.specs.Tables.{names, row_at}
use Rattle.slab_laws.specs.View.{View, Faces, HasDart, cycle_id, cycle_in, face_in, kind_in, bare_face_in}
use Rattle.listed_faces.specs.FaceParts.{is_kind}

-- the cycle bounds the face, and is of the kind that is asked for
abbrev pub bounds : Faces → FaceId → CycleKind → CycleId → Bool
bounds f a k c = ((face_in f c).0 == a.0) && is_kind k (kind_in f c)

-- the vertex has no dart, and lies in the face
abbrev pub is_isolated_in : Faces → FaceId → VertexId → Bool
is_isolated_in f a w = is_some (row_at f.bare w.0) && ((bare_face_in f w).0 == a.0)

-- the darts are one on each cycle, in the order of the cycles' names (this project)
pub record AreDartsOnCycles (v : View) (f : Faces) (ds : List DartId) : Type 0 where
  pub have : (d : DartId) → Member d ds → HasDart v d
  pub cycles : map (cycle_in f) ds ≡ map cycle_id (names f.cycles)
