-- A trapezoidal map, built or not.
use Rattle.std.specs.Prelude.{ℕ, Option, Some, None, MatchOption}
use Rattle.dcel_records.specs.declared.spot.Spot.{Spot}
use Rattle.dcel_records.specs.declared.spot.Spot.TheVariants as spot
use Rattle.slab_laws.specs.View.{View}
use Rattle.locate_trapezoid.specs.declared.graph.SearchGraph.{SearchGraph}
use Rattle.locate_trapezoid.specs.declared.node.Test.{Test}
use Rattle.locate_trapezoid.specs.declared.node.Test.TheVariants.{Vertex, Edge}
use Rattle.locate_trapezoid.specs.Graphs.{IsSearchGraphOf}

-- it is built, for this view (CGAL manual, a point location strategy attached to an arrangement)
abbrev pub IsBuiltFor : View → Option SearchGraph → Type 0
IsBuiltFor v t = MatchOption t ⊥ (IsSearchGraphOf v)

-- the most nodes on a way through it; without one, none (this project)
abbrev pub depth_of : Option SearchGraph → ℕ
depth_of None = 0
depth_of (Some g) = g.depth

-- the place of a point that is where a node asks for (this project)
abbrev pub is_at : Test → Spot
is_at (Vertex w) = spot.Vertex w
is_at (Edge d) = spot.Edge d
