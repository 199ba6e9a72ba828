use Rattle.overlay_laws.proofs.Curves.{curves_of_both}
use Rattle.overlay_laws.proofs.curves_of_both.Goals as goal

pub returns : goal.returns
returns c = curves_of_both
