-- Which edges of a slab are above a cell, and which below an edge.
use Rattle.std.specs.Prelude.{Bool, true, false, not, ◌&&◌}
use Rattle.exact_plane.specs.Span.{Span}
use Rattle.plane_graphs.specs.Graph.{Edge}
use Rattle.slab_laws.specs.Skeleton.{left_of, over, below}
use Rattle.slab_laws.specs.Slabs.{reaches_left, reaches_right}
use Rattle.slab_laws.specs.SpansDrawn.{edge_of}

-- the edge f is above the cell on the left of a dart on e; the first argument says that e isn't vertical, the second that the dart goes forward (this project)
abbrev pub above_by : Bool → Bool → Edge → Edge → Bool
above_by true true e f = reaches_right f e.low && below e f
above_by true false e f = reaches_right f e.low && not (below f e)
above_by false true e f = reaches_left f e.low && over f e.low
above_by false false e f = reaches_right f e.low && over f e.low

-- the edge f spans the slab of the cell on the left of a dart on e, and is above the cell (Fogel, Halperin and Wein: ray shooting)
abbrev pub is_above : Edge → Bool → Edge → Bool
is_above e forward f = above_by (left_of e.low e.high) forward e f

-- the second edge is in the slab on the right of the first one's lower end, and below the first one there (this project)
abbrev pub is_beneath : Span → Span → Bool
is_beneath e s = reaches_right (edge_of s) e.lower && below (edge_of s) (edge_of e)
