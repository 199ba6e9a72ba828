use Rattle.sound_changes.proofs.ChangesAreSteps.{changes_are_steps}
use Rattle.sound_changes.proofs.changes_are_steps.Goals as goal

pub returns : goal.returns
returns c = changes_are_steps
