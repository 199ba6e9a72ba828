use Rattle.std.proofs.Common.{IfOk, ap, ◌∙◌, subst}
use Rattle.subdivision_rows.specs.Listed.{Drawing, view_of, faces_of}
use Rattle.subdivision_rows.specs.OverlayInMemory.{Overlaid}
use Rattle.listed_faces.specs.Boundaries.{AreDartsOnCycles}
use Rattle.arrangement.proofs.overlaid.Overlay.boundaries.Goals as goal

pub returns : goal.returns
returns c = record { boundaries = subst (λ (d : Drawing). IfOk c.darts_on_boundaries.result (λ v. AreDartsOnCycles (view_of d) (faces_of d) v.items)) (c.rows.ensures ∙ ap (λ (o : Overlaid). o.drawing) c.self.view_is) c.darts_on_boundaries.ensures }
