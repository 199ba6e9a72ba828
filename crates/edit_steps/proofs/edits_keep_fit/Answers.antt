use Rattle.edit_steps.proofs.Laws.{keeps_fit as the_law}
use Rattle.edit_steps.proofs.edits_keep_fit.Goals as goal

pub returns : goal.returns
returns c = the_law
