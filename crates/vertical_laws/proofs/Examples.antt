-- What is directly above and below the vertices of small graphs, computed.
use Rattle.std.proofs.Common.{◌≡◌, ℤ, pos, negsuc, [], ◌∷◌, refl, map}
use Rattle.std.specs.Prelude.{Some, None}
use Rattle.exact_plane.specs.Point.{Point}
use Rattle.plane_graphs.specs.Graph.{Edge}
use Rattle.slab_laws.specs.Skeleton.{Skeleton, left_of, lower_than, run, side, over, under, gap}
use Rattle.vertical_laws.specs.Vertical.{edge, is_lower, stops, is_next_below, is_next_above, edge_first, above_vertex, below_vertex}

unfoldable pub opened : Unit {0}
unfolding left_of lower_than run side over under gap is_lower stops is_next_below is_next_above edge_first above_vertex below_vertex
opened = tt

abbrev at : ℤ → ℤ → Point
at x y = record { x = x; y = y; w = pos 1 }

abbrev from_to : Point → Point → Edge
from_to p q = record { low = p; high = q }

-- segment 0 0 4 0 / pin 2 3 1 / pin 2 -1 1
abbrev first : Skeleton
first = record {
  vertices = at (pos 0) (pos 0) ∷ at (pos 2) (negsuc 0) ∷ at (pos 2) (pos 3) ∷ at (pos 4) (pos 0) ∷ [];
  edges = from_to (at (pos 0) (pos 0)) (at (pos 4) (pos 0)) ∷ [];
}

first_above : map (above_vertex first) first.vertices ≡ None ∷ Some (edge (from_to (at (pos 0) (pos 0)) (at (pos 4) (pos 0)))) ∷ None ∷ None ∷ []
unfolding opened
first_above = refl

first_below : map (below_vertex first) first.vertices ≡ None ∷ None ∷ Some (edge (from_to (at (pos 0) (pos 0)) (at (pos 4) (pos 0)))) ∷ None ∷ []
unfolding opened
first_below = refl

-- segment 1 0 1 2
abbrev post : Skeleton
post = record {
  vertices = at (pos 1) (pos 0) ∷ at (pos 1) (pos 2) ∷ [];
  edges = from_to (at (pos 1) (pos 0)) (at (pos 1) (pos 2)) ∷ [];
}

post_above : map (above_vertex post) post.vertices ≡ Some (edge (from_to (at (pos 1) (pos 0)) (at (pos 1) (pos 2)))) ∷ None ∷ []
unfolding opened
post_above = refl

post_below : map (below_vertex post) post.vertices ≡ None ∷ Some (edge (from_to (at (pos 1) (pos 0)) (at (pos 1) (pos 2)))) ∷ []
unfolding opened
post_below = refl
