use Rattle.sound_changes.proofs.StepCurvesGo.{curves_go}
use Rattle.sound_changes.proofs.curves_go.Goals as goal

pub returns : goal.returns
returns c = curves_go
