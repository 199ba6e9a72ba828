-- The skeleton of points and spans in memory.
use Rattle.std.specs.Prelude.{List, map}
use Rattle.exact_plane.specs.Point.{Point}
use Rattle.exact_plane.specs.Span.{Span}
use Rattle.plane_graphs.specs.Graph.{Edge}
use Rattle.slab_laws.specs.Skeleton.{Skeleton}

-- the edge of a span, which has its line besides
abbrev pub edge_of : Span → Edge
edge_of s = record { low = s.lower; high = s.upper }

-- points as vertices, spans as edges
abbrev pub drawn : List Point → List Span → Skeleton
drawn vs ss = record { vertices = vs; edges = map edge_of ss }
