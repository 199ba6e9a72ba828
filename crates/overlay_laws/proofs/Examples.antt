-- Overlays of small layers. What they must give was found by another program, which works with exact fractions.
use Rattle.std.proofs.Common.{◌≡◌, ℕ, List, [], ◌∷◌, map, pos, negsuc, refl}
use Rattle.plane_graphs.specs.Piece.{Present}
use Rattle.slab_laws.proofs.Examples.{opened, at, piece}
use Rattle.slab_laws.specs.Overlay.{overlay_skeleton, overlay, curves_along, has_curve_along, cell_in, label}

-- the labels of a layer, by the ranks of the overlay's faces
abbrev labels : Present → Present → Present → List ℕ
labels layer red blue = map (label layer (overlay_skeleton red blue)) (overlay red blue).faces

-- the curves of a layer, by the edges of the overlay
abbrev all_curves : Present → Present → Present → List (List ℕ)
all_curves layer red blue = map (curves_along layer) (overlay_skeleton red blue).edges

-- ---- a square within a square
abbrev inner : Present
inner = record { pieces = piece 1 (at (pos 1) (pos 1)) (at (pos 2) (pos 1)) ∷ piece 2 (at (pos 2) (pos 1)) (at (pos 2) (pos 2)) ∷ piece 3 (at (pos 1) (pos 2)) (at (pos 2) (pos 2)) ∷ piece 4 (at (pos 1) (pos 1)) (at (pos 1) (pos 2)) ∷ []; pins = [] }

abbrev outer : Present
outer = record { pieces = piece 1 (at (pos 0) (pos 0)) (at (pos 4) (pos 0)) ∷ piece 2 (at (pos 4) (pos 0)) (at (pos 4) (pos 4)) ∷ piece 3 (at (pos 0) (pos 4)) (at (pos 4) (pos 4)) ∷ piece 4 (at (pos 0) (pos 0)) (at (pos 0) (pos 4)) ∷ []; pins = [] }

squares-red : labels inner inner outer ≡ 0 ∷ 0 ∷ 1 ∷ []
unfolding opened curves_along has_curve_along cell_in label
squares-red = refl

squares-blue : labels outer inner outer ≡ 0 ∷ 1 ∷ 1 ∷ []
unfolding opened curves_along has_curve_along cell_in label
squares-blue = refl

-- ---- triangles that share a part of a vertical side
abbrev large : Present
large = record { pieces = piece 1 (at (pos 0) (pos 0)) (at (pos 4) (pos 0)) ∷ piece 2 (at (pos 4) (pos 0)) (at (pos 4) (pos 4)) ∷ piece 3 (at (pos 0) (pos 0)) (at (pos 4) (pos 4)) ∷ []; pins = [] }

abbrev small : Present
small = record { pieces = piece 1 (at (pos 4) (pos 1)) (at (pos 4) (pos 3)) ∷ piece 2 (at (pos 1) (pos 1)) (at (pos 4) (pos 3)) ∷ piece 3 (at (pos 1) (pos 1)) (at (pos 4) (pos 1)) ∷ []; pins = [] }

triangles-red : labels large large small ≡ 0 ∷ 1 ∷ 1 ∷ 1 ∷ []
unfolding opened curves_along has_curve_along cell_in label
triangles-red = refl

triangles-blue : labels small large small ≡ 0 ∷ 0 ∷ 1 ∷ 0 ∷ []
unfolding opened curves_along has_curve_along cell_in label
triangles-blue = refl

triangles-red_curves : all_curves large large small ≡ (3 ∷ []) ∷ (1 ∷ []) ∷ [] ∷ [] ∷ (3 ∷ []) ∷ (2 ∷ []) ∷ (2 ∷ []) ∷ (2 ∷ []) ∷ []
unfolding opened curves_along has_curve_along cell_in label
triangles-red_curves = refl

triangles-blue_curves : all_curves small large small ≡ [] ∷ [] ∷ (3 ∷ []) ∷ (2 ∷ []) ∷ [] ∷ [] ∷ (1 ∷ []) ∷ [] ∷ []
unfolding opened curves_along has_curve_along cell_in label
triangles-blue_curves = refl

-- ---- triangles that share a part of a side, with a segment and pins
abbrev upper : Present
upper = record { pieces = piece 1 (at (pos 0) (pos 0)) (at (pos 4) (pos 0)) ∷ piece 2 (at (pos 2) (pos 4)) (at (pos 4) (pos 0)) ∷ piece 3 (at (pos 0) (pos 0)) (at (pos 2) (pos 4)) ∷ []; pins = [] }

abbrev lower : Present
lower = record { pieces = piece 1 (at (pos 1) (pos 0)) (at (pos 6) (pos 0)) ∷ piece 2 (at (pos 2) (negsuc 1)) (at (pos 6) (pos 0)) ∷ piece 3 (at (pos 1) (pos 0)) (at (pos 2) (negsuc 1)) ∷ piece 4 (at (pos 2) (pos 0)) (at (pos 2) (pos 2)) ∷ []; pins = at (pos 2) (pos 1) ∷ at (pos 5) (pos 5) ∷ [] }

shared-red : labels upper upper lower ≡ 0 ∷ 1 ∷ 0 ∷ []
unfolding opened curves_along has_curve_along cell_in label
shared-red = refl

shared-blue : labels lower upper lower ≡ 0 ∷ 0 ∷ 1 ∷ []
unfolding opened curves_along has_curve_along cell_in label
shared-blue = refl

shared-red_curves : all_curves upper upper lower ≡ (1 ∷ []) ∷ (3 ∷ []) ∷ [] ∷ (1 ∷ []) ∷ [] ∷ [] ∷ (1 ∷ []) ∷ [] ∷ (2 ∷ []) ∷ [] ∷ []
unfolding opened curves_along has_curve_along cell_in label
shared-red_curves = refl

shared-blue_curves : all_curves lower upper lower ≡ [] ∷ [] ∷ (3 ∷ []) ∷ (1 ∷ []) ∷ (2 ∷ []) ∷ (4 ∷ []) ∷ (1 ∷ []) ∷ (4 ∷ []) ∷ [] ∷ (1 ∷ []) ∷ []
unfolding opened curves_along has_curve_along cell_in label
shared-blue_curves = refl
