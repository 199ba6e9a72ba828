-- Records of two faces, and records without edges.
use Rattle.std.specs.Prelude.{◌≡◌, []}
use Rattle.slab_laws.specs.Tables.{names, NamesAscend}
use Rattle.slab_laws.specs.View.{HasVertex, HasFace, HasBareFace, face_id}
use Rattle.dcel_records.specs.RecordsView.{RecordsView}

-- the faces of the names 0 and 1 are there
pub record AreTwo (h : RecordsView) : Type 0 where
  pub unbounded : HasFace h.faces.tables (face_id 0)
  pub other : HasFace h.faces.tables (face_id 1)

-- no dart is there
abbrev pub HasNoDarts : RecordsView → Type 0
HasNoDarts h = h.graph.darts ≡ []

-- no darts, and each isolated vertex, listed once, has a record
pub record IsLone (h : RecordsView) : Type 0 where
  pub bare : (v : _) → HasBareFace h.faces.tables v → HasVertex h.graph v
  pub ascend : NamesAscend (names h.faces.tables.bare)
  pub darts : h.graph.darts ≡ []
