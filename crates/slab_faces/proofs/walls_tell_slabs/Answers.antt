use Rattle.slab_faces.proofs.WallCounts.{walls_tell_slabs}
use Rattle.slab_faces.proofs.walls_tell_slabs.Goals as goal

pub returns : goal.returns
returns c = walls_tell_slabs
