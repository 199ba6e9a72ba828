use Rattle.std.proofs.Common.{ap₂, ◌∙◌, sym, subst}
use Rattle.plane_graphs.specs.Piece.{Present}
use Rattle.slab_laws.specs.Layers.{rows_of}
use Rattle.slab_laws.specs.Overlay.{both, overlay}
use Rattle.slab_laws.specs.Pieces.{present_of}
use Rattle.overlay_sweep.specs.OwnEdges.{AreOwnEdges}
use Rattle.polygon_sets.proofs.RegionLayers.{counts_told}
use Rattle.arrangement.proofs.OverlayRows.{told}
use Rattle.arrangement.proofs.overlays.overlay.Goals as goal

pub overlay-both-requires : goal.overlay-both-requires
overlay-both-requires g c = record {
  red = c.in_ok-of_red.ensures.fit;
  blue = c.in_ok-of_blue.ensures.fit;
  red_edges = subst (λ (p : Present). AreOwnEdges p c.in_ok-red_edges.red_edges.items) (sym c.in_ok-of_red.ensures.present) c.in_ok-red_edges.ensures;
  blue_edges = subst (λ (p : Present). AreOwnEdges p c.in_ok-blue_edges.blue_edges.items) (sym c.in_ok-of_blue.ensures.present) c.in_ok-blue_edges.ensures;
}

pub invariant_of-result : goal.invariant_of-result
invariant_of-result g c = c.in_ok-both.ensures.stands

pub returns : goal.returns
returns g c =
    let e = c.in_ok-both.ensures in
    let red = c.in_ok-of_red.ensures.present in
    let blue = c.in_ok-of_blue.ensures.present in record {
      subdivision = e.subdivision ∙ ap₂ overlay red blue;
      pins = e.pins ∙ ap₂ (λ (r b : Present). (both r b).pins) red blue;
      red = e.red ∙ ap₂ (λ (r b : Present). rows_of r (overlay r b)) red blue;
      blue = e.blue ∙ ap₂ (λ (r b : Present). rows_of b (overlay r b)) red blue;
      pieces = counts_told c.in_ok-both.both.drawing c.in_ok-both.both.red_pieces c.in_ok-both.both.blue_pieces (present_of c.in_ok-of_red.of_red) (present_of c.in_ok-of_blue.of_blue) _ _ e.subdivision e.red_pieces e.blue_pieces red blue;
      stands = e.stands;
      text = told c.in_ok-both.both (present_of c.in_ok-of_red.of_red) (present_of c.in_ok-of_blue.of_blue) _ _ e.subdivision e.pins e.red e.blue e.plane e.stands red blue;
    }
