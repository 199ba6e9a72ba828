use Rattle.face_steps.proofs.ChangeNames.{changes_keep_names}
use Rattle.face_steps.proofs.changes_keep_names.Goals as goal

pub returns : goal.returns
returns c = changes_keep_names
