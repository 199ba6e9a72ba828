use Rattle.edit_steps.proofs.StrandDrops.{drop_of_strands as the_law}
use Rattle.edit_steps.proofs.drop_of_strands.Goals as goal

-- src/lib.rt:74:1
pub returns : goal.returns
returns c = the_law
