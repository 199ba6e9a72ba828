use Rattle.edit_steps.proofs.Together.{vertices_together as the_law}
use Rattle.edit_steps.proofs.vertices_together.Goals as goal

-- src/lib.rt:49:1
pub returns : goal.returns
returns c = the_law
