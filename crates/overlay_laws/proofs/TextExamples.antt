-- Texts of overlays of small layers, as this project's format has them.
use Rattle.std.proofs.Common.{◌≡◌, [], ◌∷◌, codes, pos, refl}
use Rattle.plane_graphs.specs.Piece.{Present}
use Rattle.slab_laws.proofs.Examples.{opened, at, piece}
use Rattle.slab_laws.specs.Overlay.{curves_along, has_curve_along, cell_in, label}
use Rattle.overlay_laws.specs.OverlayLaws.{empty}
use Rattle.slab_laws.specs.Layers.{rows_of}
use Rattle.slab_laws.specs.OverlayText.{overlay_text, presents_text}

empty-text : presents_text empty empty ≡ codes "overlay 0 0 1\nf 0 0 0\nend\n"
unfolding opened curves_along has_curve_along cell_in label rows_of overlay_text presents_text
empty-text = refl

-- two squares that share a part of a side
abbrev left : Present
left = record { pieces = piece 1 (at (pos 0) (pos 0)) (at (pos 4) (pos 0)) ∷ piece 2 (at (pos 4) (pos 0)) (at (pos 4) (pos 4)) ∷ piece 3 (at (pos 0) (pos 4)) (at (pos 4) (pos 4)) ∷ piece 4 (at (pos 0) (pos 0)) (at (pos 0) (pos 4)) ∷ []; pins = [] }

abbrev right : Present
right = record { pieces = piece 1 (at (pos 4) (pos 1)) (at (pos 7) (pos 1)) ∷ piece 2 (at (pos 7) (pos 1)) (at (pos 7) (pos 3)) ∷ piece 3 (at (pos 4) (pos 3)) (at (pos 7) (pos 3)) ∷ piece 4 (at (pos 4) (pos 1)) (at (pos 4) (pos 3)) ∷ []; pins = [] }

squares-text : presents_text left right ≡ codes "overlay 8 9 3\nv 1 0 0 1 : 2 3\nv 2 0 4 1 : 1 6\nv 3 4 0 1 : 1 4\nv 4 4 1 1 : 3 5 7\nv 5 4 3 1 : 4 6 8\nv 6 4 4 1 : 2 5\nv 7 7 1 1 : 4 8\nv 8 7 3 1 : 5 7\ne 1 2 : r4\ne 1 3 : r1\ne 2 6 : r3\ne 3 4 : r2\ne 4 5 : r2 b4\ne 4 7 : b1\ne 5 6 : r2\ne 5 8 : b3\ne 7 8 : b2\nf 0 0 0\nh 1 2 6 5 8 7 4 3\nf 1 1 0\no 1 3 4 5 6 2\nf 2 0 1\no 4 7 8 5\nend\n"
unfolding opened curves_along has_curve_along cell_in label rows_of overlay_text presents_text
squares-text = refl
