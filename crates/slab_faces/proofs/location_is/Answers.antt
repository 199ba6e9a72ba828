use Rattle.slab_faces.proofs.LocationLemmas.{location_is}
use Rattle.slab_faces.proofs.location_is.Goals as goal

pub returns : goal.returns
returns c = location_is
