use Rattle.slab_faces.proofs.WallCounts.{walls_tell_edges}
use Rattle.slab_faces.proofs.walls_tell_edges.Goals as goal

pub returns : goal.returns
returns c = walls_tell_edges
