use Rattle.std.proofs.Common.{sym, ap, ◌∙◌, subst}
use Rattle.slab_laws.specs.declared.names.FaceId.{FaceId}
use Rattle.slab_laws.specs.View.{face_in}
use Rattle.subdivision_rows.specs.Listed.{view_of, faces_of}
use Rattle.face_location.specs.Below.{IsHighestDart}
use Rattle.face_location.proofs.PointFaces.{first_is_least, over_dart, far_outside}
use Rattle.face_steps.specs.VertexSteps.{IsFaceRound}
use Rattle.listed_faces.proofs.Located.{unbounded_has}
use Rattle.listed_faces.proofs.location.face_over.Goals as goal

pub returns-in-Some-clause-face : goal.returns-in-Some-clause-face
returns-in-Some-clause-face c =
    let v = view_of c.args.rows.now in
    let f = faces_of c.args.rows.now in
    λ q Q spot h. subst (λ (a : FaceId). IsFaceRound v f a q) (sym (c.face.ensures.face ∙ ap (face_in f) c.cycle.ensures.cycle))
    (over_dart v f q c.laws.ensures.stands.graph Q spot c.in-Some.dart (subst (IsHighestDart v q) c.in-Some.is h))

pub returns-in-None-clause-face : goal.returns-in-None-clause-face
returns-in-None-clause-face c =
    let d = c.args.rows.now in
    let v = view_of d in
    let f = faces_of d in
    λ q Q spot h. far_outside v f q c.laws.ensures.stands.graph Q spot (first_is_least f.faces c.laws.ensures.stands.complete.faces_ascend (unbounded_has d c.laws.ensures.plane c.laws.ensures.lines)) (subst (IsHighestDart v q) c.in-None.is h)

pub returns-in-None-clause-has : goal.returns-in-None-clause-has
returns-in-None-clause-has c = unbounded_has c.args.rows.now c.laws.ensures.plane c.laws.ensures.lines
