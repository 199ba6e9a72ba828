-- How many looks the walk takes in a triangle with a vertical side, from (0, 0) over (4, 0) to (0, 3): three on the boundary of each face.
use Rattle.std.proofs.Common.{◌≡◌, ℕ, refl, map, [], ◌∷◌}
use Rattle.std.specs.Prelude.{pos, negsuc}
use Rattle.exact_plane.specs.Point.{Point}
use Rattle.plane_graphs.specs.Ascending.{ascending, place}
use Rattle.plane_graphs.specs.Graph.{edge_cmp}
use Rattle.plane_graphs.proofs.Examples.{at}
use Rattle.slab_laws.specs.Skeleton.{left_of, lower_than, under, side, gap, run}
use Rattle.slab_laws.specs.Tables.{row_at}
use Rattle.slab_laws.specs.Triangle.{three_four, triangle_view, triangle_faces}
use Rattle.locate_walk.specs.Rounds.{looks_below}

looks_at : Point → ℕ
looks_at = looks_below (triangle_view three_four) triangle_faces

-- on the left of it, below it and on its right the walk stays in the unbounded face
outside : map looks_at (at (negsuc 0) (pos 1) ∷ at (pos 1) (negsuc 0) ∷ at (pos 5) (pos 1) ∷ []) ≡ 3 ∷ 3 ∷ 3 ∷ []
unfolding looks_at row_at left_of lower_than under side gap run ascending place edge_cmp
outside = refl

-- inside it, it comes into the face there; above it the unbounded face is passed twice, and counts once
inside_and_above : map looks_at (at (pos 1) (pos 1) ∷ at (pos 1) (pos 5) ∷ []) ≡ 6 ∷ 6 ∷ []
unfolding looks_at row_at left_of lower_than under side gap run ascending place edge_cmp
inside_and_above = refl

-- below points of the vertical side, and above it, the vertical is leant to the right, into the face inside
on_side_and_over : map looks_at (at (pos 0) (pos 1) ∷ at (pos 0) (pos 5) ∷ []) ≡ 6 ∷ 6 ∷ []
unfolding looks_at row_at left_of lower_than under side gap run ascending place edge_cmp
on_side_and_over = refl
