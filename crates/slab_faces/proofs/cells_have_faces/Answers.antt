use Rattle.slab_faces.proofs.LocationLemmas.{cells_have_faces}
use Rattle.slab_faces.proofs.cells_have_faces.Goals as goal

pub returns : goal.returns
returns c = cells_have_faces
