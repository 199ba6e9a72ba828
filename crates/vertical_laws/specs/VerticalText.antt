-- The text of what is directly above and below each vertex.
use Rattle.std.specs.Prelude.{ℕ, List, ◌++◌, flat_map, length, codes, Option, Some, None}
use Rattle.exact_plane.specs.Point.{Point}
use Rattle.slab_laws.specs.Skeleton.{Skeleton}
use Rattle.slab_laws.specs.Text.{number, triple, ended}
use Rattle.vertical_laws.specs.Vertical.{Stop, vertex, edge, above_vertex, below_vertex}

-- a vertex by its point, an edge by its lower and its upper end, or none (this project)
unfoldable pub stop_text : Option Stop → List ℕ
stop_text None = codes " none"
stop_text (Some (vertex p)) = codes " vertex" ++ triple p
stop_text (Some (edge e)) = codes " edge" ++ (triple e.low ++ triple e.high)

-- v, the vertex's three numbers, what is above it, what is below it (this project)
unfoldable pub stops_line : Skeleton → Point → List ℕ
stops_line g p = ended (codes "v" ++ (triple p ++ (codes " above" ++ (stop_text (above_vertex g p) ++ (codes " below" ++ stop_text (below_vertex g p))))))

-- how many vertices there are, a line for each in the order of their points, the end (this project)
unfoldable pub vertical_text : Skeleton → List ℕ
vertical_text g = ended (codes "vertical" ++ number (length g.vertices)) ++ (flat_map (stops_line g) g.vertices ++ ended (codes "end"))
