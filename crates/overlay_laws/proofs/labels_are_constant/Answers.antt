use Rattle.overlay_laws.proofs.Labels.{labels_are_constant}
use Rattle.overlay_laws.proofs.labels_are_constant.Goals as goal

pub returns : goal.returns
returns c = labels_are_constant
