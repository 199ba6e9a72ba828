use Rattle.sound_changes.proofs.ViewsMade.{changes_make_views}
use Rattle.sound_changes.proofs.changes_make_views.Goals as goal

pub returns : goal.returns
returns c = changes_make_views
