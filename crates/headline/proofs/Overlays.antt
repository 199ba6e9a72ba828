-- What the call of an overlay ensures, in one word.
use Rattle.std.proofs.Common.{◌≡◌, Result, Ok, Err}
use Rattle.std.specs.Prelude.{IfOk}
use Rattle.plane_graphs.specs.Piece.{Present}
use Rattle.slab_laws.specs.FacesSound.{IsSound}
use Rattle.slab_laws.specs.Layers.{rows_of}
use Rattle.slab_laws.specs.Overlay.{both, overlay}
use Rattle.slab_laws.specs.OverlayText.{presents_text}
use Rattle.subdivision_rows.specs.Listed.{subdivision_in, view_of, faces_of}
use Rattle.subdivision_rows.specs.OverlayInMemory.{Overlaid}
use Rattle.arrangement.specs.Overlays.{text_of}
use Rattle.headline.specs.Maps.{IsOverlayOf}

pub gathered : {E : Type 0} (red blue : Present) (r : Result Overlaid E)
    → IfOk r (λ o. subdivision_in o.drawing ≡ overlay red blue)
    → IfOk r (λ o. o.drawing.graph.pins ≡ (both red blue).pins)
    → IfOk r (λ o. IsSound (view_of o.drawing) (faces_of o.drawing))
    → IfOk r (λ o. o.red ≡ rows_of red (overlay red blue))
    → IfOk r (λ o. o.blue ≡ rows_of blue (overlay red blue))
    → IfOk r (λ o. text_of o ≡ presents_text red blue)
    → IfOk r (λ o. IsOverlayOf red blue o)
gathered red blue (Err e) subdivision pins stands of_red of_blue text = tt
gathered red blue (Ok o) subdivision pins stands of_red of_blue text = record { subdivision = subdivision; pins = pins; stands = stands; of_red = of_red; of_blue = of_blue; text = text }
