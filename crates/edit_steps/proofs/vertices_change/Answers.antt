use Rattle.edit_steps.proofs.Vertices.{vertices_change as the_law}
use Rattle.edit_steps.proofs.vertices_change.Goals as goal

pub returns : goal.returns
returns c = the_law
