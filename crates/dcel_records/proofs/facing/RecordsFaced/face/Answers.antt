use Rattle.std.proofs.Common.{ap, sym, subst}
use Rattle.slab_laws.specs.declared.names.FaceId.{FaceId}
use Rattle.slab_laws.specs.View.{HasFace, face_or}
use Rattle.dcel_records.proofs.CyclesWritten.{cycle_key}
use Rattle.dcel_records.proofs.FaceLaws.{cycle_face_there}
use Rattle.dcel_records.proofs.ListsRead.{cycle_row_read}
use Rattle.dcel_records.proofs.facing.RecordsFaced.face.Goals as goal

pub index-requires : goal.index-requires
index-requires c = cycle_key c.self.inside _ c.self.view_is c.self.invariant.faces c.args.c c.requires

pub returns-clause-face : goal.returns-clause-face
returns-clause-face c = ap face_or (cycle_row_read c.self.inside _ c.self.view_is c.self.invariant.faces c.args.c c.index.result.now c.index.ensures)

pub returns-clause-has : goal.returns-clause-has
returns-clause-has c =
    subst (λ (a : FaceId). HasFace c.args.self.now.faces.tables a)
    (sym (ap face_or (cycle_row_read c.self.inside _ c.self.view_is c.self.invariant.faces c.args.c c.index.result.now c.index.ensures)))
    (cycle_face_there c.self.inside _ c.self.view_is c.self.invariant.faces c.args.c c.requires)
