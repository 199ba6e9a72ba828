use Rattle.std.proofs.Common.{ap, ◌∙◌, subst}
use Rattle.face_location.specs.Spots.{IsSpotOf}
use Rattle.subdivision_rows.specs.Listed.{Drawing, view_of, faces_of}
use Rattle.subdivision_rows.specs.OverlayInMemory.{Overlaid, graph_of, faces_in}
use Rattle.arrangement.proofs.Located.{spot_there}
use Rattle.arrangement.proofs.overlaid.Overlay.locate.Goals as goal

pub returns-clause-has : goal.returns-clause-has
returns-clause-has c =
    let o = c.args.self.now in
    let p = c.args.p.now in
    let at = c.locate.result in
    spot_there (graph_of o) (faces_in o) c.laws.ensures.stands p at
    (subst (λ (d : Drawing). IsSpotOf (view_of d) (faces_of d) p at) (c.rows.ensures ∙ ap (λ (k : Overlaid). k.drawing) c.self.view_is) c.locate.ensures)
