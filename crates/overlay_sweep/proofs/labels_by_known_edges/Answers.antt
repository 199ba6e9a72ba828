use Rattle.overlay_sweep.proofs.KnownLabels.{labels_by_known_edges}
use Rattle.overlay_sweep.proofs.labels_by_known_edges.Goals as goal

pub returns : goal.returns
returns c = labels_by_known_edges
