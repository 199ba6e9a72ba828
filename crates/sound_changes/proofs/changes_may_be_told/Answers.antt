use Rattle.sound_changes.proofs.ViewsMade.{changes_may_be_told}
use Rattle.sound_changes.proofs.changes_may_be_told.Goals as goal

pub returns : goal.returns
returns c = changes_may_be_told
