use Rattle.face_steps.proofs.MapInSteps.{map_in_steps}
use Rattle.face_steps.proofs.map_in_steps.Goals as goal

pub returns : goal.returns
returns c = map_in_steps
