use Rattle.overlay_laws.proofs.Both.{overlay_is_fit}
use Rattle.overlay_laws.proofs.overlay_is_fit.Goals as goal

pub returns : goal.returns
returns c = overlay_is_fit
