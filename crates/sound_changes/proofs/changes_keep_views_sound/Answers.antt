use Rattle.sound_changes.proofs.ChangesAreSteps.{changes_keep_views_sound}
use Rattle.sound_changes.proofs.changes_keep_views_sound.Goals as goal

pub returns : goal.returns
returns c = changes_keep_views_sound
