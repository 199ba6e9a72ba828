use Rattle.edit_steps.proofs.StrandPaths.{curves_of_strands as the_law}
use Rattle.edit_steps.proofs.curves_of_strands.Goals as goal

-- src/lib.rt:59:1
pub returns : goal.returns
returns c = the_law
