use Rattle.slab_faces.proofs.NextLemmas.{next_one}
use Rattle.slab_faces.proofs.next_is_one_to_one.Goals as goal

pub returns : goal.returns
returns c = next_one
