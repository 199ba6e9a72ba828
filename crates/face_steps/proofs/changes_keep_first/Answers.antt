use Rattle.face_steps.proofs.ChangeNames.{changes_keep_first}
use Rattle.face_steps.proofs.changes_keep_first.Goals as goal

pub returns : goal.returns
returns c = changes_keep_first
