use Rattle.slab_faces.proofs.WallsLemmas.{off_walls}
use Rattle.slab_faces.proofs.off_walls.Goals as goal

pub returns : goal.returns
returns c = off_walls
