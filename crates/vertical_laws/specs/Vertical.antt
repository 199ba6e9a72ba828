-- What is directly above and directly below a vertex: a vertical edge that covers the wall there, else the stop that is nearest.
use Rattle.std.specs.Prelude.{pos, Bool, not, ◌&&◌, List, ◌++◌, map, filter, find, Option, Some, None}
use Rattle.std.specs.List.{list_any}
use lib.Signed.{lt_z}
use Rattle.exact_plane.specs.Point.{Point}
use Rattle.plane_graphs.specs.Graph.{Edge}
use Rattle.slab_laws.specs.Skeleton.{Skeleton, lower_than, on_wall, over, under, gap}
use Rattle.slab_laws.specs.Meets.{covers_above}
use Rattle.slab_laws.specs.Faces.{passes}

-- what a wall has at a height: a vertex, or an edge (Fogel, Halperin and Wein: vertical ray shooting)
pub data Stop : Type 0 where
  vertex : Point → Stop
  edge : Edge → Stop

-- one is lower than the other on the wall of v
unfoldable pub is_lower : Point → Stop → Stop → Bool
is_lower v (vertex p) (vertex q) = lower_than p q
is_lower v (vertex p) (edge f) = over f p
is_lower v (edge e) (vertex q) = under e q
is_lower v (edge e) (edge f) = lt_z (pos 0) (gap e f v)

-- the stops of the wall of v: its vertices, and the edges that pass through it
unfoldable pub stops : Skeleton → Point → List Stop
stops g v = map vertex (filter (λ u. on_wall u v) g.vertices) ++ map edge (filter (passes v) g.edges)

-- s is below v, and no other stop is between
unfoldable pub is_next_below : Skeleton → Point → Stop → Bool
is_next_below g v s = is_lower v s (vertex v) && not (list_any (λ t. is_lower v s t && is_lower v t (vertex v)) (stops g v))

-- s is above v, and no other stop is between
unfoldable pub is_next_above : Skeleton → Point → Stop → Bool
is_next_above g v s = is_lower v (vertex v) s && not (list_any (λ t. is_lower v t s && is_lower v (vertex v) t) (stops g v))

-- a vertical edge covers the part of the wall just below t
abbrev pub covers_below : Edge → Point → Bool
covers_below e t = on_wall e.low t && on_wall e.high t && lower_than e.low t && not (lower_than e.high t)

-- the edge that covers the wall there, else the stop
unfoldable pub edge_first : Option Edge → Option Stop → Option Stop
edge_first (Some e) s = Some (edge e)
edge_first None s = s

-- directly above a vertex, and directly below it (CGAL manual, vertical decomposition; that a vertical edge is named: this project)
unfoldable pub above_vertex : Skeleton → Point → Option Stop
above_vertex g v = edge_first (find (λ e. covers_above e v) g.edges) (find (is_next_above g v) (stops g v))

unfoldable pub below_vertex : Skeleton → Point → Option Stop
below_vertex g v = edge_first (find (λ e. covers_below e v) g.edges) (find (is_next_below g v) (stops g v))
