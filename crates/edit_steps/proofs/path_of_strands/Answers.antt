use Rattle.edit_steps.proofs.StrandPaths.{path_of_strands as the_law}
use Rattle.edit_steps.proofs.path_of_strands.Goals as goal

-- src/lib.rt:69:1
pub returns : goal.returns
returns c = the_law
