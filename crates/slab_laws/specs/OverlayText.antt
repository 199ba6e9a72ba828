-- The text of an overlay.
use Rattle.std.specs.Prelude.{ℕ, List, ◌++◌, map, codes, decimal, zip}
use Rattle.std.specs.List.{slice_index_or}
use Rattle.exact_plane.specs.Point.{Point}
use Rattle.plane_graphs.specs.Piece.{Present}
use Rattle.slab_laws.specs.declared.slab_cell.SlabCell.{SlabCell}
use Rattle.slab_laws.specs.Subdivision.{Subdivision, rank}
use Rattle.slab_laws.specs.Text.{number, text_by}
use Rattle.slab_laws.specs.Overlay.{both, overlay}
use Rattle.slab_laws.specs.Layers.{LayerRows, rows_of}

-- the numbers of curves as they are written, each after the letter of its layer (this project)
abbrev pub lettered : List ℕ → List ℕ → List (List ℕ)
lettered letter cs = map (λ c. letter ++ decimal c) cs

-- the words of an edge: its red curves, then its blue ones (this project)
abbrev pub edge_words : List ℕ × List ℕ → List (List ℕ)
edge_words both = lettered (codes "r") both.0 ++ lettered (codes "b") both.1

-- what follows the rank of a face: the ranks of the red face and of the blue face that hold it (this project)
abbrev pub face_labels : Subdivision → LayerRows → LayerRows → SlabCell → List ℕ
face_labels s red blue f = number (slice_index_or red.labels (rank s f) 0) ++ number (slice_index_or blue.labels (rank s f) 0)

-- the text of a subdivision with its pins and what it tells of both layers: that of a subdivision but for its first word, the words of curves, and the labels of faces (this project)
unfoldable pub overlay_text : Subdivision → List Point → LayerRows → LayerRows → List ℕ
overlay_text s pins red blue = text_by (codes "overlay") (face_labels s red blue) s (record { pins = pins; words = map edge_words (zip red.curves blue.curves) })

-- the text of the overlay of two layers
unfoldable pub presents_text : Present → Present → List ℕ
presents_text red blue = overlay_text (overlay red blue) (both red blue).pins (rows_of red (overlay red blue)) (rows_of blue (overlay red blue))
