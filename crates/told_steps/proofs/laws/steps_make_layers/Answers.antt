use Rattle.told_steps.proofs.Layers.{steps_make_layers}
use Rattle.told_steps.proofs.laws.steps_make_layers.Goals as goal

pub returns : goal.returns
returns c = steps_make_layers
