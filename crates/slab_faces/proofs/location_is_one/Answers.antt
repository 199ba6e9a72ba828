use Rattle.slab_faces.proofs.Located.{location_is_one}
use Rattle.slab_faces.proofs.location_is_one.Goals as goal

pub returns : goal.returns
returns c = location_is_one
