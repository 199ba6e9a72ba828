use Rattle.std.proofs.Common.{◌≡◌, IfSome, IfNone, ap, ◌∙◌, subst}
use Rattle.subdivision_rows.specs.Listed.{Drawing}
use Rattle.subdivision_rows.specs.OverlayInMemory.{Overlaid}
use Rattle.listed_faces.specs.Located.{IsListedFaceAt, IsInNoListedFace}
use Rattle.arrangement.proofs.overlaid.Overlay.face_at.Goals as goal

pub returns-clause-face : goal.returns-clause-face
returns-clause-face c = subst (λ (d : Drawing). IfSome c.face_at.result (IsListedFaceAt d c.args.p.now)) (c.rows.ensures ∙ ap (λ (o : Overlaid). o.drawing) c.self.view_is) c.face_at.ensures.face

pub returns-clause-none : goal.returns-clause-none
returns-clause-none c = subst (λ (d : Drawing). IfNone c.face_at.result (IsInNoListedFace d c.args.p.now)) (c.rows.ensures ∙ ap (λ (o : Overlaid). o.drawing) c.self.view_is) c.face_at.ensures.none
