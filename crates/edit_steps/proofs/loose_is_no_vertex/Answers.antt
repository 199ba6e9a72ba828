use Rattle.edit_steps.proofs.Seen.{loose_is_no_vertex as the_law}
use Rattle.edit_steps.proofs.loose_is_no_vertex.Goals as goal

pub returns : goal.returns
returns c = the_law
