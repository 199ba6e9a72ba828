use Rattle.edit_steps.proofs.Layers.{layers_lawful as the_law}
use Rattle.edit_steps.proofs.layers_are_lawful.Goals as goal

pub returns : goal.returns
returns c = the_law
