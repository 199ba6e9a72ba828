use Rattle.face_roots.proofs.LowestDarts.{lowest_is_above_below}
use Rattle.face_roots.proofs.lowest_is_above_below.Goals as goal

pub returns : goal.returns
returns c = lowest_is_above_below
