-- The graph of a fit present is plane.
use Rattle.plane_graphs.specs.Graph.{graph, vertices}
use Rattle.plane_graphs.specs.GraphLaws.{GraphIsPlane}
use Rattle.plane_graphs.proofs.Vertices.{vertices_closed}
use Rattle.plane_graphs.proofs.Plane.{plane_over}
use Rattle.plane_graphs.proofs.Lines.{geometry}

pub graph_is_plane : GraphIsPlane
unfolding graph
graph_is_plane p fit = plane_over (vertices p) p.pieces (vertices_closed geometry p fit) p.pins
