use Rattle.face_changes.proofs.CycleNames.{names_tell_cycles}
use Rattle.face_changes.proofs.names_tell_cycles.Goals as goal

pub returns : goal.returns
returns c = names_tell_cycles
