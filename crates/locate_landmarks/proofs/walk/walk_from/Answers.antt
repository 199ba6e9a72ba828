use Rattle.std.proofs.Common.{◌≡◌, arith, refl, ap, subst}
use Rattle.slab_laws.specs.declared.names.FaceId.{FaceId}
use Rattle.locate_landmarks.specs.Ways.{face_after, upright_size, IsUpright}
use Rattle.locate_landmarks.proofs.walk.walk_from.Goals as goal

pub returns-clause-looks : goal.returns-clause-looks
returns-clause-looks g c =
    let h = c.args.glance.now in
    let q = c.args.course.now.point in
    let a = c.go_along-face.ensures.looks in
    let u = c.go_upright.ensures.looks in
    let same : upright_size h q c.go_along-face.result u.0 ≡ upright_size h q (face_after h c.args.first a.0) u.0 = ap (λ (x : FaceId). upright_size h q x u.0) a.2 in
    let n = a.3 in
    let m = u.2 in (
      record { start = c.args.first; along = a.0; upright = u.0 },
      refl,
      record { along = a.1; upright = subst (λ (x : FaceId). IsUpright h q c.args.course.now.downward x u.0) a.2 u.1 },
      omega arith,
    )
