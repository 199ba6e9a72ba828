use Rattle.std.proofs.Common.{IfOk, ap, ◌∙◌, subst}
use Rattle.subdivision_rows.specs.Listed.{Drawing, view_of, faces_of}
use Rattle.subdivision_rows.specs.OverlayInMemory.{Overlaid}
use Rattle.listed_faces.specs.FaceParts.{AreBoundariesOf}
use Rattle.arrangement.proofs.overlaid.Overlay.boundaries_of.Goals as goal

pub returns : goal.returns
returns c = record { boundaries = subst (λ (d : Drawing). IfOk c.boundaries_of.result (λ v. AreBoundariesOf (view_of d) (faces_of d) c.args.face c.args.kind v.items)) (c.rows.ensures ∙ ap (λ (o : Overlaid). o.drawing) c.self.view_is) c.boundaries_of.ensures }
