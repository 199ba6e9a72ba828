-- What an arrangement lists: its curves, and its edges by their ends.
use Rattle.std.specs.Prelude.{ℕ, Bool, List, map, filter}
use Rattle.std.specs.Ordering.{is_lt, nat_cmp}
use Rattle.exact_plane.specs.Point.{Point}
use Rattle.exact_plane.specs.PointOrder.{point_cmp}
use Rattle.plane_graphs.specs.Ascending.{ascending}
use Rattle.plane_graphs.specs.Piece.{Present}
use Rattle.record_orders.specs.declared.darts.DartKey.{DartKey}

-- the curves that have a piece, and so run along an edge; they ascend, and each stands once (this project)
abbrev pub curves_drawn : Present → List ℕ
curves_drawn p = ascending nat_cmp (map (λ k. k.curve) p.pieces)

-- the dart goes from the lower to the upper end of its edge (CGAL manual, direction of a halfedge)
abbrev pub goes_forward : DartKey → Bool
goes_forward k = is_lt (point_cmp k.source k.target)

-- the ends of the edges of those darts that go from the lower one, in the order of the darts
abbrev pub forward_ends : List DartKey → List (Point × Point)
forward_ends ks = map (λ k. (k.source, k.target)) (filter goes_forward ks)
