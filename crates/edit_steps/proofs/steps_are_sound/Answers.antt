use Rattle.edit_steps.proofs.Laws.{are_sound as the_law}
use Rattle.edit_steps.proofs.steps_are_sound.Goals as goal

pub returns : goal.returns
returns c = the_law
