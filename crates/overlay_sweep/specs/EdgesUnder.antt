-- The edge directly below each vertex, by places.
use Rattle.std.specs.Prelude.{◌≡◌, ◌<◌, ℕ, List, length, slice_index_or, Option, None}
use Rattle.std.specs.List.{Contains}
use Rattle.std.specs.Option.{option_map}
use Rattle.edge_predicates.specs.Highest.{IsHighestBelow}
use Rattle.slab_laws.specs.Skeleton.{Skeleton}
use Rattle.sweep_graphs.specs.declared.edges.EdgeEnds.{EdgeEnds}
use Rattle.sweep_graphs.specs.Edges.{edge_between}
use Rattle.sweep_graphs.specs.Traces.{point_at}

-- of each vertex the highest edge below it, if there is one
pub record AreUnder (g : Skeleton) (es : List (Option EdgeEnds)) : Type 0 where
  pub counted : length es ≡ length g.vertices
  pub highest : (k : ℕ) → k < length g.vertices → IsHighestBelow (Contains g.edges) (point_at g.vertices k) (option_map (edge_between g.vertices) (slice_index_or es k None))
