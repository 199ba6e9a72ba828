use Rattle.std.proofs.Common.{sym, subst}
use Rattle.slab_laws.specs.declared.names.FaceId.{FaceId}
use Rattle.slab_laws.specs.View.{HasFace}
use Rattle.dcel_records.proofs.FaceLaws.{bare_face_there}
use Rattle.dcel_records.proofs.ListsRead.{bare_key, bare_place, bare_face_read}
use Rattle.dcel_records.proofs.facing.RecordsFaced.bare_face.Goals as goal

pub index-requires : goal.index-requires
index-requires c = bare_key c.self.inside _ c.self.view_is c.self.invariant.faces c.args.v c.requires

pub place-requires : goal.place-requires
place-requires c = bare_place c.self.inside _ c.self.view_is c.self.invariant.faces c.args.v c.index.result.now c.requires c.index.ensures

pub returns-clause-face : goal.returns-clause-face
returns-clause-face c = bare_face_read c.self.inside _ c.self.view_is c.self.invariant.faces c.args.v c.index.result.now c.place.result c.index.ensures c.place.ensures

pub returns-clause-has : goal.returns-clause-has
returns-clause-has c =
    subst (λ (a : FaceId). HasFace c.args.self.now.faces.tables a)
    (sym (bare_face_read c.self.inside _ c.self.view_is c.self.invariant.faces c.args.v c.index.result.now c.place.result c.index.ensures c.place.ensures))
    (bare_face_there c.self.inside _ c.self.view_is c.self.invariant.faces c.args.v c.requires)
