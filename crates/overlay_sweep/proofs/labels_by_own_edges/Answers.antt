use Rattle.overlay_sweep.proofs.LayerLabels.{labels_by_own_edges}
use Rattle.overlay_sweep.proofs.labels_by_own_edges.Goals as goal

pub returns : goal.returns
returns c = labels_by_own_edges
