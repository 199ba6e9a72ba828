-- The overlay of two arrangements, and its text.
use Rattle.std.specs.Prelude.{ℕ, List}
use Rattle.slab_laws.specs.Subdivision.{Subdivision}
use Rattle.slab_laws.specs.Overlay.{overlay}
use Rattle.subdivision_rows.specs.OverlayInMemory.{Overlaid, graph_of, faces_in, red_of, blue_of}
use Rattle.arr_text.specs.Reading.{overlay_text_in}
use Rattle.arrangement.specs.Arranged.{Arranged, layer_in}

-- the subdivision of the plane by the present segments and points of both
abbrev pub overlay_of : Arranged → Arranged → Subdivision
overlay_of red blue = overlay (layer_in red).present (layer_in blue).present

-- the text of what the overlay's records say by name
abbrev pub text_of : Overlaid → List ℕ
text_of o = overlay_text_in (graph_of o) (faces_in o) (red_of o) (blue_of o)
