use Rattle.slab_faces.proofs.PlaneGraphs.{graph_is_plane_skeleton}
use Rattle.slab_faces.proofs.graph_is_plane_skeleton.Goals as goal

pub returns : goal.returns
returns c = graph_is_plane_skeleton
