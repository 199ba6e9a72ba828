use Rattle.std.proofs.Common.{length, sym, ap, subst, ◌∙◌}
use Rattle.std.proofs.lemmas.List.{length-map}
use Rattle.plane_graphs.specs.Graph.{edges}
use Rattle.set_laws.specs.PolygonSets.{pieces_along}
use Rattle.plane_graphs.specs.Plane.{IsPlane}
use Rattle.slab_laws.specs.FacesSound.{IsSound}
use Rattle.slab_laws.specs.Pieces.{present_of}
use Rattle.slab_laws.specs.Layers.{rows_of}
use Rattle.subdivision_rows.specs.Listed.{Drawing, subdivision_in, view_of, faces_of, AreLinesOf}
use Rattle.subdivision_rows.specs.OverlayInMemory.{Overlaid}
use Rattle.subdivision_rows.proofs.OverlaidRows.{rows_sound}
use Rattle.plain_slabs.proofs.overlay.subdivide_both.Goals as goal

pub of-requires : goal.of-requires
of-requires c =
    let back = sym c.plain.view_is in
    record {
      red = rows_sound (present_of c.args.red.now) c.plain.inside.rows c.in-Ok.red (c.in-Ok.ensures.red ∙ ap (λ (d : Drawing). rows_of (present_of c.args.red.now) (subdivision_in d)) back);
      blue = rows_sound (present_of c.args.blue.now) c.plain.inside.rows c.in-Ok.blue (c.in-Ok.ensures.blue ∙ ap (λ (d : Drawing). rows_of (present_of c.args.blue.now) (subdivision_in d)) back);
      red_pieces = ap length c.in-Ok.ensures.red_pieces ∙ length-map _ (pieces_along (present_of c.args.red.now)) ∙ ap (λ (d : Drawing). length (edges d.graph)) back;
      blue_pieces = ap length c.in-Ok.ensures.blue_pieces ∙ length-map _ (pieces_along (present_of c.args.blue.now)) ∙ ap (λ (d : Drawing). length (edges d.graph)) back;
    }

pub returns-in-Ok : goal.returns-in-Ok
returns-in-Ok c =
    let drawing = ap (λ (o : Overlaid). o.drawing) c.of.ensures ∙ c.plain.view_is in
    record {
      subdivision = ap (λ (d : Drawing). subdivision_in d) drawing ∙ c.in_ok-plain.ensures.subdivision;
      pins = ap (λ (d : Drawing). d.graph.pins) drawing ∙ c.in_ok-plain.ensures.pins;
      red = ap (λ (o : Overlaid). o.red) c.of.ensures ∙ c.in-Ok.ensures.red ∙ ap (rows_of (present_of c.args.red.now)) c.in_ok-plain.ensures.subdivision;
      blue = ap (λ (o : Overlaid). o.blue) c.of.ensures ∙ c.in-Ok.ensures.blue ∙ ap (rows_of (present_of c.args.blue.now)) c.in_ok-plain.ensures.subdivision;
      plane = subst (λ (d : Drawing). IsPlane d.graph) (sym drawing) c.in_ok-plain.ensures.plane;
      lines = subst AreLinesOf (sym drawing) c.in_ok-plain.ensures.lines;
      stands = subst (λ (d : Drawing). IsSound (view_of d) (faces_of d)) (sym drawing) c.in_ok-plain.ensures.stands;
    }
