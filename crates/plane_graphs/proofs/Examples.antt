-- Graphs of small presents, computed. What they must be was found by another program, which works with exact fractions.
use Rattle.std.proofs.Common.{◌≡◌, ℕ, ℤ, pos, negsuc, [], ◌∷◌, refl}
use Rattle.integers.specs.Divisor.{gcd_within, gcd}
use Rattle.exact_plane.specs.Point.{Point}
use Rattle.plane_graphs.specs.Ascending.{place, ascending}
use Rattle.plane_graphs.specs.Line.{homogeneous_point, crossing}
use Rattle.plane_graphs.specs.Piece.{Piece, along, on}
use Rattle.plane_graphs.specs.Graph.{mark, mark_cmp, ends, common_points, vertices, is_parted, are_neighbours, marks_on, marks, graph}

unfoldable pub opened : Unit {0}
unfolding gcd_within gcd place ascending homogeneous_point crossing along on mark_cmp ends common_points vertices is_parted are_neighbours marks_on marks graph
opened = tt

-- the whole point (x, y)
abbrev pub at : ℤ → ℤ → Point
at x y = record { x = x; y = y; w = pos 1 }

-- the point (x / w, y / w)
abbrev pub over : ℤ → ℤ → ℕ → Point
over x y w = record { x = x; y = y; w = pos w }

-- a whole segment, of the curve c
abbrev pub piece : ℕ → Point → Point → Piece
piece c p q = record { curve = c; side = 1; segment = record { lower = p; upper = q }; from = p; to = q }

-- an empty present
empty : graph (record { pieces = []; pins = [] })
    ≡ record { points = []; marks = []; pins = [] }
unfolding opened
empty = refl

-- two segments that cross at a fraction
fraction : graph (record { pieces = piece 1 (at (pos 0) (pos 0)) (at (pos 2) (pos 1)) ∷ piece 2 (at (pos 0) (pos 1)) (at (pos 1) (pos 0)) ∷ []; pins = [] })
    ≡ record { points = at (pos 0) (pos 0) ∷ at (pos 0) (pos 1) ∷ over (pos 2) (pos 1) 3 ∷ at (pos 1) (pos 0) ∷ at (pos 2) (pos 1) ∷ []; marks = mark (at (pos 0) (pos 0)) (over (pos 2) (pos 1) 3) 1 ∷ mark (at (pos 0) (pos 1)) (over (pos 2) (pos 1) 3) 2 ∷ mark (over (pos 2) (pos 1) 3) (at (pos 1) (pos 0)) 2 ∷ mark (over (pos 2) (pos 1) 3) (at (pos 2) (pos 1)) 1 ∷ []; pins = [] }
unfolding opened
fraction = refl

-- a square with both diagonals
diagonals : graph (record { pieces = piece 1 (at (pos 0) (pos 0)) (at (pos 4) (pos 0)) ∷ piece 2 (at (pos 4) (pos 0)) (at (pos 4) (pos 4)) ∷ piece 3 (at (pos 0) (pos 4)) (at (pos 4) (pos 4)) ∷ piece 4 (at (pos 0) (pos 0)) (at (pos 0) (pos 4)) ∷ piece 5 (at (pos 0) (pos 0)) (at (pos 4) (pos 4)) ∷ piece 6 (at (pos 0) (pos 4)) (at (pos 4) (pos 0)) ∷ []; pins = [] })
    ≡ record { points = at (pos 0) (pos 0) ∷ at (pos 0) (pos 4) ∷ at (pos 2) (pos 2) ∷ at (pos 4) (pos 0) ∷ at (pos 4) (pos 4) ∷ []; marks = mark (at (pos 0) (pos 0)) (at (pos 0) (pos 4)) 4 ∷ mark (at (pos 0) (pos 0)) (at (pos 2) (pos 2)) 5 ∷ mark (at (pos 0) (pos 0)) (at (pos 4) (pos 0)) 1 ∷ mark (at (pos 0) (pos 4)) (at (pos 2) (pos 2)) 6 ∷ mark (at (pos 0) (pos 4)) (at (pos 4) (pos 4)) 3 ∷ mark (at (pos 2) (pos 2)) (at (pos 4) (pos 0)) 6 ∷ mark (at (pos 2) (pos 2)) (at (pos 4) (pos 4)) 5 ∷ mark (at (pos 4) (pos 0)) (at (pos 4) (pos 4)) 2 ∷ []; pins = [] }
unfolding opened
diagonals = refl

-- a T
tee : graph (record { pieces = piece 1 (at (pos 0) (pos 0)) (at (pos 4) (pos 0)) ∷ piece 2 (at (pos 2) (pos 0)) (at (pos 2) (pos 3)) ∷ []; pins = [] })
    ≡ record { points = at (pos 0) (pos 0) ∷ at (pos 2) (pos 0) ∷ at (pos 2) (pos 3) ∷ at (pos 4) (pos 0) ∷ []; marks = mark (at (pos 0) (pos 0)) (at (pos 2) (pos 0)) 1 ∷ mark (at (pos 2) (pos 0)) (at (pos 2) (pos 3)) 2 ∷ mark (at (pos 2) (pos 0)) (at (pos 4) (pos 0)) 1 ∷ []; pins = [] }
unfolding opened
tee = refl

-- a star of five
star : graph (record { pieces = piece 1 (at (negsuc 1) (pos 1)) (at (pos 0) (pos 0)) ∷ piece 2 (at (negsuc 0) (negsuc 1)) (at (pos 0) (pos 0)) ∷ piece 3 (at (pos 0) (pos 0)) (at (pos 0) (pos 3)) ∷ piece 4 (at (pos 0) (pos 0)) (at (pos 2) (pos 1)) ∷ piece 5 (at (pos 0) (pos 0)) (at (pos 2) (negsuc 0)) ∷ []; pins = [] })
    ≡ record { points = at (negsuc 1) (pos 1) ∷ at (negsuc 0) (negsuc 1) ∷ at (pos 0) (pos 0) ∷ at (pos 0) (pos 3) ∷ at (pos 2) (negsuc 0) ∷ at (pos 2) (pos 1) ∷ []; marks = mark (at (negsuc 1) (pos 1)) (at (pos 0) (pos 0)) 1 ∷ mark (at (negsuc 0) (negsuc 1)) (at (pos 0) (pos 0)) 2 ∷ mark (at (pos 0) (pos 0)) (at (pos 0) (pos 3)) 3 ∷ mark (at (pos 0) (pos 0)) (at (pos 2) (negsuc 0)) 5 ∷ mark (at (pos 0) (pos 0)) (at (pos 2) (pos 1)) 4 ∷ []; pins = [] }
unfolding opened
star = refl

-- one segment along another
overlap : graph (record { pieces = piece 1 (at (pos 2) (pos 0)) (at (pos 4) (pos 0)) ∷ piece 2 (at (pos 0) (pos 0)) (at (pos 6) (pos 0)) ∷ []; pins = [] })
    ≡ record { points = at (pos 0) (pos 0) ∷ at (pos 2) (pos 0) ∷ at (pos 4) (pos 0) ∷ at (pos 6) (pos 0) ∷ []; marks = mark (at (pos 0) (pos 0)) (at (pos 2) (pos 0)) 2 ∷ mark (at (pos 2) (pos 0)) (at (pos 4) (pos 0)) 1 ∷ mark (at (pos 2) (pos 0)) (at (pos 4) (pos 0)) 2 ∷ mark (at (pos 4) (pos 0)) (at (pos 6) (pos 0)) 2 ∷ []; pins = [] }
unfolding opened
overlap = refl

-- a square with a triangle in it, a pin in its face, a pin on an edge and one on a vertex
isolated : graph (record { pieces = piece 1 (at (pos 0) (pos 0)) (at (pos 12) (pos 0)) ∷ piece 2 (at (pos 12) (pos 0)) (at (pos 12) (pos 12)) ∷ piece 3 (at (pos 0) (pos 12)) (at (pos 12) (pos 12)) ∷ piece 4 (at (pos 0) (pos 0)) (at (pos 0) (pos 12)) ∷ piece 5 (at (pos 1) (pos 1)) (at (pos 3) (pos 1)) ∷ piece 6 (at (pos 2) (pos 3)) (at (pos 3) (pos 1)) ∷ piece 7 (at (pos 1) (pos 1)) (at (pos 2) (pos 3)) ∷ []; pins = at (pos 0) (pos 0) ∷ over (pos 13) (pos 24) 2 ∷ at (pos 9) (pos 9) ∷ [] })
    ≡ record { points = at (pos 0) (pos 0) ∷ at (pos 0) (pos 12) ∷ at (pos 1) (pos 1) ∷ at (pos 2) (pos 3) ∷ at (pos 3) (pos 1) ∷ over (pos 13) (pos 24) 2 ∷ at (pos 9) (pos 9) ∷ at (pos 12) (pos 0) ∷ at (pos 12) (pos 12) ∷ []; marks = mark (at (pos 0) (pos 0)) (at (pos 0) (pos 12)) 4 ∷ mark (at (pos 0) (pos 0)) (at (pos 12) (pos 0)) 1 ∷ mark (at (pos 0) (pos 12)) (over (pos 13) (pos 24) 2) 3 ∷ mark (at (pos 1) (pos 1)) (at (pos 2) (pos 3)) 7 ∷ mark (at (pos 1) (pos 1)) (at (pos 3) (pos 1)) 5 ∷ mark (at (pos 2) (pos 3)) (at (pos 3) (pos 1)) 6 ∷ mark (over (pos 13) (pos 24) 2) (at (pos 12) (pos 12)) 3 ∷ mark (at (pos 12) (pos 0)) (at (pos 12) (pos 12)) 2 ∷ []; pins = at (pos 0) (pos 0) ∷ over (pos 13) (pos 24) 2 ∷ at (pos 9) (pos 9) ∷ [] }
unfolding opened
isolated = refl

-- a vertical edge between two stops
upright : graph (record { pieces = piece 1 (at (pos 0) (pos 0)) (at (pos 4) (pos 0)) ∷ piece 2 (at (pos 0) (pos 6)) (at (pos 4) (pos 6)) ∷ piece 3 (at (pos 2) (pos 2)) (at (pos 2) (pos 4)) ∷ piece 4 (at (pos 2) (pos 0)) (at (pos 2) (pos 1)) ∷ piece 5 (at (pos 2) (pos 5)) (at (pos 2) (pos 6)) ∷ []; pins = [] })
    ≡ record { points = at (pos 0) (pos 0) ∷ at (pos 0) (pos 6) ∷ at (pos 2) (pos 0) ∷ at (pos 2) (pos 1) ∷ at (pos 2) (pos 2) ∷ at (pos 2) (pos 4) ∷ at (pos 2) (pos 5) ∷ at (pos 2) (pos 6) ∷ at (pos 4) (pos 0) ∷ at (pos 4) (pos 6) ∷ []; marks = mark (at (pos 0) (pos 0)) (at (pos 2) (pos 0)) 1 ∷ mark (at (pos 0) (pos 6)) (at (pos 2) (pos 6)) 2 ∷ mark (at (pos 2) (pos 0)) (at (pos 2) (pos 1)) 4 ∷ mark (at (pos 2) (pos 0)) (at (pos 4) (pos 0)) 1 ∷ mark (at (pos 2) (pos 2)) (at (pos 2) (pos 4)) 3 ∷ mark (at (pos 2) (pos 5)) (at (pos 2) (pos 6)) 5 ∷ mark (at (pos 2) (pos 6)) (at (pos 4) (pos 6)) 2 ∷ []; pins = [] }
unfolding opened
upright = refl

-- segments across the middle of the plane
negatives : graph (record { pieces = piece 1 (at (negsuc 8) (negsuc 8)) (at (pos 9) (pos 8)) ∷ piece 2 (at (negsuc 8) (pos 9)) (at (pos 8) (negsuc 8)) ∷ []; pins = [] })
    ≡ record { points = at (negsuc 8) (negsuc 8) ∷ at (negsuc 8) (pos 9) ∷ over (negsuc 8) (negsuc 314) 613 ∷ at (pos 8) (negsuc 8) ∷ at (pos 9) (pos 8) ∷ []; marks = mark (at (negsuc 8) (negsuc 8)) (over (negsuc 8) (negsuc 314) 613) 1 ∷ mark (at (negsuc 8) (pos 9)) (over (negsuc 8) (negsuc 314) 613) 2 ∷ mark (over (negsuc 8) (negsuc 314) 613) (at (pos 8) (negsuc 8)) 2 ∷ mark (over (negsuc 8) (negsuc 314) 613) (at (pos 9) (pos 8)) 1 ∷ []; pins = [] }
unfolding opened
negatives = refl
