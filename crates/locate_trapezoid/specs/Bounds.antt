-- How large a search graph may become.
use Rattle.std.specs.Prelude.{◌&&◌, Bool, true, length, nat_le, Option, Some, None}
use Rattle.locate_trapezoid.specs.declared.bound.Bound.{Bound}
use Rattle.locate_trapezoid.specs.declared.graph.SearchGraph.{SearchGraph}

-- it has no more nodes than the bound says, and no longer way; without one it has whatever it has (this project)
abbrev pub is_within : SearchGraph → Option Bound → Bool
is_within g None = true
is_within g (Some b) = nat_le (length g.nodes.items) b.nodes && nat_le g.depth b.depth
