use Rattle.arr_text.proofs.LayerTexts.{overlay_text_is_the_layers}
use Rattle.arr_text.proofs.laws.overlay_text_is_the_layers.Goals as goal

pub returns : goal.returns
returns c = overlay_text_is_the_layers
