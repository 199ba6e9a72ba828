use Rattle.face_changes.proofs.RecordsAfterSplits.{records_after_splits}
use Rattle.face_changes.proofs.records_after_splits.Goals as goal

pub returns : goal.returns
returns c = records_after_splits
