-- What questions ask of the world.
use Rattle.std.specs.Prelude.{ℕ, Bool, ◌&&◌, is_none}
use Rattle.std.specs.List.{list_any}
use Rattle.plane_graphs.specs.Graph.{Graph, Edge, graph, is_at, same_curve}
use Rattle.set_laws.specs.PolygonSets.{odd_end}
use Rattle.planar_run.specs.World.{World, red_of, blue_of}

-- the graph of the present segments and points
abbrev pub graph_of : World → Graph
graph_of world = graph world.layer.present

-- a curve has this number
abbrev pub is_named : ℕ → World → Bool
is_named c world = list_any (same_curve c) world.layer.names

-- an edge joins these two points
abbrev pub is_edge : Edge → World → Bool
is_edge e world = list_any (is_at e.low e.high) (graph_of world).marks

-- each point is an end of an even number of pieces, in both layers
abbrev pub are_closed : World → Bool
are_closed world = is_none (odd_end (red_of world).layer.present) && is_none (odd_end (blue_of world).layer.present)
