use Rattle.sound_changes.proofs.ViewsMade.{changes_fit_views}
use Rattle.sound_changes.proofs.changes_fit_views.Goals as goal

pub returns : goal.returns
returns c = changes_fit_views
