use Rattle.overlay_laws.proofs.Alone.{empty_layer_adds_nothing}
use Rattle.overlay_laws.proofs.empty_layer_adds_nothing.Goals as goal

pub returns : goal.returns
returns c = empty_layer_adds_nothing
