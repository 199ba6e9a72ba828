use Rattle.told_steps.proofs.NamedLayers.{layers_are_named}
use Rattle.told_steps.proofs.laws.layers_are_named.Goals as goal

pub returns : goal.returns
returns c = layers_are_named
