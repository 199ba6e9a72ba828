-- The cell above which edges are asked for, and which edges are above it.
use Rattle.std.specs.Prelude.{◌≡◌, Bool, true, not, ◌&&◌}
use Rattle.exact_plane.specs.Point.{Point}
use Rattle.plane_graphs.specs.Graph.{Edge}
use Rattle.slab_laws.specs.Darts.{Dart}
use Rattle.slab_laws.specs.Skeleton.{HasWeight, left_of, over, below}
use Rattle.slab_laws.specs.SpansDrawn.{edge_of}
use Rattle.edge_predicates.specs.CellsAbove.{is_above}
use Rattle.boundary_cycles.specs.declared.asked.Asked.{Asked}
use Rattle.boundary_cycles.specs.declared.asked.Asked.TheVariants.{Left, Right, Above, Below}

-- the point is on the left of the cell's slab (this project)
abbrev pub is_behind_asked : Asked → Point → Bool
is_behind_asked (Left t) p = left_of p t
is_behind_asked (Right t) p = not (left_of t p)
is_behind_asked (Above s) p = not (left_of s.lower p)
is_behind_asked (Below s) p = not (left_of s.lower p)

-- the point on whose vertical the cell's slab ends or begins (this project)
abbrev pub asked_at : Asked → Point
asked_at (Left t) = t
asked_at (Right t) = t
asked_at (Above s) = s.lower
asked_at (Below s) = s.lower

-- of an edge that spans the slab, whether it is above the cell (this project)
abbrev pub is_over_asked : Asked → Edge → Bool
is_over_asked (Left t) f = over f t
is_over_asked (Right t) f = over f t
is_over_asked (Above s) f = below (edge_of s) f
is_over_asked (Below s) f = not (below f (edge_of s))

-- the edge spans the cell's slab, and is above the cell (Fogel, Halperin and Wein: ray shooting)
abbrev pub is_above_asked : Asked → Edge → Bool
is_above_asked a f = (is_behind_asked a f.low && not (is_behind_asked a f.high)) && is_over_asked a f

-- a positive weight, and an edge that isn't vertical where the cell lies above or below one (this project)
abbrev pub IsAsked : Asked → Type 0
IsAsked (Left t) = HasWeight t
IsAsked (Right t) = HasWeight t
IsAsked (Above s) = HasWeight s.lower × (left_of s.lower s.upper ≡ true)
IsAsked (Below s) = HasWeight s.lower × (left_of s.lower s.upper ≡ true)

-- the cell is the one on the left of the dart: the same edges are above it (this project)
abbrev pub IsAskedBeside : Dart → Asked → Type 0
IsAskedBeside d a = (f : Edge) → is_above_asked a f ≡ is_above d.edge d.forward f
