use Rattle.edit_steps.proofs.StrandSteps.{strands_follow as the_law}
use Rattle.edit_steps.proofs.strands_follow.Goals as goal

-- src/lib.rt:64:1
pub returns : goal.returns
returns c = the_law
