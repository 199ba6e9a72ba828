-- What an overlay tells of its two layers, from its rows: a dart's curves are those of its edge, and a face's label is at its place.
use Rattle.std.specs.Prelude.{◌≡◌}
use Rattle.slab_laws.specs.FacesSound.{IsSound}
use Rattle.slab_laws.specs.Layers.{LayerView, rows_of}
use Rattle.slab_laws.specs.Overlay.{both, overlay}
use Rattle.slab_laws.specs.OverlayText.{presents_text}
use Rattle.plane_graphs.specs.Piece.{Present}
use Rattle.subdivision_rows.specs.Listed.{subdivision_in, view_of, faces_of}
use Rattle.subdivision_rows.specs.OverlayInMemory.{Overlaid, layer_view}
use Rattle.arrangement.specs.Overlays.{text_of}

-- what is told of the red layer, and of the blue one
abbrev pub red_in : Overlaid → LayerView
red_in o = layer_view o.drawing o.red

abbrev pub blue_in : Overlaid → LayerView
blue_in o = layer_view o.drawing o.blue

-- the overlay of these two presents: the subdivision by both, whose records stand for it; and of each of its edges the curves of each layer, of each of its faces the face of each layer that holds it
pub record IsOverlayOf (red blue : Present) (o : Overlaid) : Type 0 where
  pub subdivision : subdivision_in o.drawing ≡ overlay red blue
  pub pins : o.drawing.graph.pins ≡ (both red blue).pins
  pub stands : IsSound (view_of o.drawing) (faces_of o.drawing)
  pub of_red : o.red ≡ rows_of red (overlay red blue)
  pub of_blue : o.blue ≡ rows_of blue (overlay red blue)
  pub text : text_of o ≡ presents_text red blue
