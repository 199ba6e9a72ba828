use Rattle.edit_steps.proofs.Together.{path_points_tell as the_law}
use Rattle.edit_steps.proofs.path_points_tell.Goals as goal

-- src/lib.rt:54:1
pub returns : goal.returns
returns c = the_law
