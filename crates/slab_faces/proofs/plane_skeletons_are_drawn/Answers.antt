use Rattle.slab_faces.proofs.SkeletonsDrawn.{plane_skeletons_are_drawn}
use Rattle.slab_faces.proofs.plane_skeletons_are_drawn.Goals as goal

pub returns : goal.returns
returns c = plane_skeletons_are_drawn
